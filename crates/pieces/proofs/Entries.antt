-- Bit a of an entry is set exactly when a is a motif of the book that derives the piece.
use mathlib.Core.Path.{◌≡◌, refl, sym, ap, ◌∙◌, subst}
use mathlib.Core.Logic.{⊎_elim, ◌↔◌}
use mathlib.Core.Bool.{Bool, true, false, true≢false}
use Prim.Native.Nat.{ℕ, zero, suc, ◌+◌, ◌^◌, ◌<◌}
use native.Mathlib.Nat.{pow-suc, one-mul}
use native.Mathlib.Decide.{ℕ_discrete}
use native.Mathlib.Omega.{arith}
use lib.Bits.{bit_or, or_shifted_r, or_zero_r}
use borrow.Author.Tests.{eq-eqb, ne_eqb}
use Rattle.names.specs.Pick.{pick}
use Rattle.names.proofs.Tests.{true-or-false}
use Rattle.books.specs.Contents.{Contents}
use Rattle.books.specs.Picture.{Picture}
use Rattle.books.specs.Derives.{Derives}
use Rattle.books.specs.Decide.{derives?}
use Rattle.books.proofs.Deciding.{decided}
use Rattle.pieces.specs.Table.{entry}
use Rattle.names.specs.Bits.{bit, bits, is_set}
use Rattle.names.proofs.Bits.{bit-pow, pow-has, or_split, or_left, or_right, none-set}

-- ── The number with chosen bits ──

pub bits-lt : (k : ℕ) (test : ℕ → Bool) → bits k test < 2 ^ k
unfolding bits
bits-lt zero test = omega arith
bits-lt (suc k) test = go (bits-lt k test) (test k)
  where
    go : bits k test < 2 ^ k → (t : Bool) → bits k test + pick t (2 ^ k) 0 < 2 ^ suc k
    go l true = omega (arith, pow-suc 2 k)
    go l false = omega (arith, pow-suc 2 k)

-- the next power of two is joined to smaller bits
next_bit : (k x : ℕ) → x < 2 ^ k → (t : Bool) → bit_or x (pick t (2 ^ k) 0) ≡ x + pick t (2 ^ k) 0
next_bit k x h true =
    ap (λ (y : ℕ). bit_or x y) (sym (one-mul (2 ^ k))) ∙ or_shifted_r 1 k x h ∙ omega (arith, one-mul (2 ^ k))
next_bit k x h false = or_zero_r x ∙ omega arith

pub bits-has : (k : ℕ) (test : ℕ → Bool) (a : ℕ) → bit (bits k test) a ≡ 1 → (a < k) × (test a ≡ true)
unfolding bits
bits-has zero test a h = absurd (none-set a h)
bits-has (suc k) test a h =
    ⊎_elim (λ o. let v = bits-has k test a o in let l : a < k = v.0 in (omega arith, v.1)) (λ o. last (test k) refl o)
    (or_split (bits k test) (pick (test k) (2 ^ k) 0) a (ap (λ (x : ℕ). bit x a) (next_bit k (bits k test) (bits-lt k test) (test k)) ∙ h))
  where
    last : (t : Bool) → test k ≡ t → bit (pick t (2 ^ k) 0) a ≡ 1 → (a < suc k) × (test a ≡ true)
    last true e o = let q : a ≡ k = pow-has k a o in (omega arith, ap test q ∙ e)
    last false e o = absurd (none-set a o)

pub has-bits : (k : ℕ) (test : ℕ → Bool) (a : ℕ) → a < k → test a ≡ true → bit (bits k test) a ≡ 1
unfolding bits
has-bits zero test a l e = absurd (omega arith)
has-bits (suc k) test a l e =
    ap (λ (x : ℕ). bit x a) (sym (next_bit k (bits k test) (bits-lt k test) (test k))) ∙ go (λ g. has-bits k test a g e) (ℕ_discrete a k)
  where
    go : (a < k → bit (bits k test) a ≡ 1) → Dec (a ≡ k) → bit (bit_or (bits k test) (pick (test k) (2 ^ k) 0)) a ≡ 1
    go ih (yes q) =
        or_right (bits k test) (pick (test k) (2 ^ k) 0) a
        (ap (λ (t : Bool). bit (pick t (2 ^ k) 0) a) (ap test (sym q) ∙ e) ∙ subst (λ (x : ℕ). bit (2 ^ x) a ≡ 1) q (bit-pow a))
    go ih (no n) = or_left (bits k test) (pick (test k) (2 ^ k) 0) a (ih (omega arith))

-- ── The entry of a picture ──

pub entry-bit : (b : Contents) (q : Picture) (a : ℕ) → (bit (entry b q) a ≡ 1) ↔ ((a < b.motifs) × (derives? b a q ≡ true))
unfolding entry
entry-bit b q a = (bits-has b.motifs (λ x. derives? b x q) a, λ v. has-bits b.motifs (λ x. derives? b x q) a v.0 v.1)

pub entry-derives : (b : Contents) (q : Picture) (a : ℕ) → bit (entry b q) a ≡ 1 → Derives b a q
entry-derives b q a h = (decided b a q).0 ((entry-bit b q a).0 h).1

pub derives-entry : (b : Contents) (q : Picture) (a : ℕ) → a < b.motifs → Derives b a q → bit (entry b q) a ≡ 1
derives-entry b q a l d = (entry-bit b q a).1 (l, (decided b a q).1 d)

-- So the test of a motif's bit is the test whether the motif derives the piece.
pub entry-tests : (b : Contents) (q : Picture) (a : ℕ) → a < b.motifs → is_set (entry b q) a ≡ derives? b a q
unfolding is_set
entry-tests b q a low =
    ⊎_elim
    (λ t. eq-eqb _ 1 ((entry-bit b q a).1 (low, t)) ∙ sym t)
    (λ t. ne_eqb _ 1 (λ o. true≢false (sym ((entry-bit b q a).0 o).1 ∙ t)) ∙ sym t)
    (true-or-false (derives? b a q))
