-- The parts of a piece: they lie where the piece lies, their areas make up its area, and cutting a picture's piece gives the pieces of the parts.
use Prim.Native.Nat.{ℕ, ◌+◌, ◌-◌, ◌*◌, ◌≤◌, ◌<◌}
use mathlib.Core.Path.{◌≡◌, refl, sym, ◌∙◌, ap}
use native.Mathlib.Nat.{mul-add, add-mul, add_assoc, zero-add, mul-le-mul}
use native.Mathlib.Omega.{arith}
use Rattle.books.specs.Picture.{Picture, size, first, rest}
use Rattle.books.specs.Size.{Within}
use Rattle.pieces.specs.Most.{most}
use Rattle.pieces.specs.declared.piece.Piece.{Piece}
use Rattle.books.specs.declared.rule.Dir.{Dir}
use Rattle.books.specs.declared.rule.Dir.TheVariants.{Across as across, Down as down}
use Rattle.pieces.specs.Pieces.{Inside}
use Rattle.pieces.specs.Area.{whole, area}
use Rattle.pieces.specs.Parts.{reach, first_part, rest_part}
use Rattle.pieces.specs.Table.{cut}
use Rattle.pieces.specs.inner.PartsOf.{CutIn}
use Rattle.pieces.proofs.CellsFirst.{cell-before}

module _ (m n : ℕ) (q : Piece) (i : Inside m n q) where
  pub reach-small : (d : Dir) (top : ℕ) → m ≤ top → n ≤ top → reach d q ≤ top
  reach-small across top hm hn = omega arith
  reach-small down top hm hn = omega arith

  pub cut_in : Within most m n → (d : Dir) (k : ℕ) → k ≤ reach d q → CutIn d k q
  cut_in room d k h = record { within = h; low = omega arith; right = omega arith }

  -- a piece has at least one cell, ...
  pub area-pos : 1 ≤ area q
  area-pos = mul-le-mul i.tall i.wide

  -- ... and its first cell lies on the sheet
  pub cell-inside : q.top * n + q.left < m * n
  cell-inside = cell-before m n q.top q.left (omega arith) (omega arith)

pub whole-inside : (m n : ℕ) → 1 ≤ m → 1 ≤ n → Inside m n (whole m n)
whole-inside m n hm hn = record { tall = hm; wide = hn; low = omega arith; right = omega arith }

pub parts-area : (d : Dir) (k : ℕ) (q : Piece) → k ≤ reach d q → area (first_part d k q) + area (rest_part d k q) ≡ area q
parts-area across k q h = sym (mul-add q.height k (q.width - k)) ∙ ap (λ (x : ℕ). q.height * x) (omega arith)
parts-area down k q h = sym (add-mul k (q.height - k) q.width) ∙ ap (λ (x : ℕ). x * q.width) (omega arith)

-- Each of the two parts of a picture's piece is a piece of the picture: the first by computation, the rest by counting on.
pub cut-reach : (p : Picture) (q : Piece) (d : Dir) → size d (cut p q) ≡ reach d q
cut-reach p q across = refl
cut-reach p q down = refl

pub cut-first : (p : Picture) (q : Piece) (d : Dir) (k : ℕ) → first d k (cut p q) ≡ cut p (first_part d k q)
cut-first p q across k = refl
cut-first p q down k = refl

pub cut-rest : (p : Picture) (q : Piece) (d : Dir) (k : ℕ) → rest d k (cut p q) ≡ cut p (rest_part d k q)
cut-rest p q across k = λ z. record { rows = q.height; cols = q.width - k; cell = λ i j. p.cell (q.top + i) (sym (add_assoc q.left k j) z) }
cut-rest p q down k = λ z. record { rows = q.height - k; cols = q.width; cell = λ i j. p.cell (sym (add_assoc q.top k i) z) (q.left + j) }

pub cut-whole : (p : Picture) → cut p (whole p.rows p.cols) ≡ p
cut-whole p = λ z. record { rows = p.rows; cols = p.cols; cell = λ i j. p.cell (zero-add i z) (zero-add j z) }
