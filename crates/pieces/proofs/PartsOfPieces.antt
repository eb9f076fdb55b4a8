-- The two parts of a cut are pieces of the sheet and have smaller slots, since they are narrower and as tall, or flatter.
use mathlib.Core.Path.{◌≡◌}
use Prim.Native.Nat.{ℕ, ◌+◌, ◌-◌, ◌≤◌, ◌<◌}
use native.Mathlib.Omega.{arith}
use Rattle.books.specs.declared.rule.Dir.TheVariants.{Across as across, Down as down}
use Rattle.books.specs.declared.rule.Dir.{Dir}
use Rattle.pieces.specs.Pieces.{piece, Inside, slot_of}
use Rattle.pieces.specs.Parts.{reach, first_part, rest_part}
use Rattle.pieces.specs.declared.piece.Piece.{Piece}
use native.Mathlib.Nat.{le_of_lt}
use Rattle.books.specs.declared.size.Size.{Size}
use Rattle.pieces.specs.inner.Seen.{On, BothOn}
use Rattle.pieces.specs.inner.PartsOf.{parts_of}
use Rattle.pieces.proofs.Slots.{narrower, flatter}

pub first-inside : (d : Dir) {m n : ℕ} {p : Piece} (k : ℕ) → Inside m n p → 1 ≤ k → k ≤ reach d p → Inside m n (first_part d k p)
first-inside across k i h l = record { tall = i.tall; wide = h; low = i.low; right = omega arith }
first-inside down k i h l = record { tall = h; wide = i.wide; low = omega arith; right = i.right }

pub rest-inside : (d : Dir) {m n : ℕ} {p : Piece} (k : ℕ) → Inside m n p → k < reach d p → Inside m n (rest_part d k p)
rest-inside across k i l = record { tall = i.tall; wide = omega arith; low = i.low; right = omega arith }
rest-inside down k i l = record { tall = omega arith; wide = i.wide; low = omega arith; right = i.right }

-- Nothing cut off leaves the whole piece.
pub rest-whole : (d : Dir) (p : Piece) → rest_part d 0 p ≡ p
rest-whole across p = same (omega arith) (omega arith)
  where
    same : {w l : ℕ} → w ≡ p.width → l ≡ p.left → piece p.height w p.top l ≡ p
    same a b = rw (a, b)
rest-whole down p = same (omega arith) (omega arith)
  where
    same : {h t : ℕ} → h ≡ p.height → t ≡ p.top → piece h p.width t p.left ≡ p
    same a b = rw (a, b)

pub first-before : (d : Dir) {m n : ℕ} {p : Piece} (k : ℕ) → Inside m n p → 1 ≤ k → k < reach d p
    → slot_of m n (first_part d k p) < slot_of m n p
unfolding slot_of
first-before across {m} {n} {p} k i h l =
    narrower m n (p.height - 1) (k - 1) p.top p.left (omega arith) (omega arith) (p.width - 1) p.top p.left (omega arith)
first-before down {m} {n} {p} k i h l =
    flatter m n (k - 1) (p.width - 1) p.top p.left (omega arith) (omega arith) (omega arith)
    (p.height - 1) (p.width - 1) p.top p.left (omega arith)

pub rest-before : (d : Dir) {m n : ℕ} {p : Piece} (k : ℕ) → Inside m n p → 1 ≤ k → k < reach d p
    → slot_of m n (rest_part d k p) < slot_of m n p
unfolding slot_of
rest-before across {m} {n} {p} k i h l =
    narrower m n (p.height - 1) (p.width - k - 1) p.top (p.left + k) (omega arith) (omega arith) (p.width - 1) p.top p.left (omega arith)
rest-before down {m} {n} {p} k i h l =
    flatter m n (p.height - k - 1) (p.width - 1) (p.top + k) p.left (omega arith) (omega arith) (omega arith)
    (p.height - 1) (p.width - 1) p.top p.left (omega arith)

pub parts_on : (s : Size) (d : Dir) (k l r : ℕ) (q : Piece) → On s q → 1 ≤ k → k < reach d q → BothOn s (parts_of d k l r q)
parts_on s d k l r q on some h = record { first_on = first-inside d _ on some (le_of_lt h); rest_on = rest-inside d _ on h }
