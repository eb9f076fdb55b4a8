-- How the slots of the two parts of a piece change from cut to cut: one column or row more makes one block more come before the first part, and each such block
-- is smaller than the one before by the same number; so it is with the second part, backwards.
use mathlib.Core.Path.{◌≡◌, sym, ap, ◌∙◌}
use Prim.Native.Nat.{ℕ, ◌+◌, ◌-◌, ◌*◌, ◌≤◌, ◌<◌}
use native.Mathlib.Nat.{add-mul, mul-add, one-mul, mul_comm}
use native.Mathlib.Omega.{arith}
use Rattle.books.specs.declared.rule.Dir.TheVariants.{Across as across, Down as down}
use Rattle.books.specs.declared.rule.Dir.{Dir}
use Rattle.pieces.specs.Pieces.{Inside, stretches, slot_at, slot_of}
use Rattle.pieces.specs.Parts.{reach, first_part, rest_part}
use Rattle.pieces.specs.inner.Course.{cells, change, short, shorter}
use Rattle.pieces.specs.declared.piece.Piece.{Piece}
use Rattle.pieces.proofs.Stretches.{stretches-next}

-- ── One column or row more ──

pub one_more : (x n : ℕ) (c : ℕ) → x < n → (n - x) * c ≡ (n - (x + 1)) * c + c
one_more x n c h =
    let e : (n - (x + 1) + 1) * c ≡ (n - x) * c = ap (λ (y : ℕ). y * c) (omega arith) in
    omega (arith, add-mul (n - (x + 1)) 1 c, one-mul c)

wider : (m n u x t l : ℕ) → x < n → slot_at m n u (x + 1) t l + t ≡ slot_at m n u x t l + (n - x) * (m - u)
unfolding slot_at
wider m n u x t l h =
    let a : (m - u) * stretches n (x + 1) ≡ (m - u) * stretches n x + (m - u) * (n - x) =
    ap (λ (y : ℕ). (m - u) * y) (stretches-next n x) ∙ mul-add (m - u) (stretches n x) (n - x) in
    omega (arith, one_more x n t h, mul_comm t (n - x), mul_comm t (n - (x + 1)), mul_comm (m - u) (n - x))

taller : (m n x v t l : ℕ) → x < m → slot_at m n (x + 1) v t l + stretches n v ≡ slot_at m n x v t l + (m - x) * stretches n n
unfolding slot_at
taller m n x v t l h =
    let a : stretches m (x + 1) * stretches n n ≡ stretches m x * stretches n n + (m - x) * stretches n n =
    ap (λ (y : ℕ). y * stretches n n) (stretches-next m x) ∙ add-mul (stretches m x) (m - x) (stretches n n) in
    omega (arith, one_more x m (stretches n v) h)

righter : (m n u v t l : ℕ) → slot_at m n u v t (l + 1) ≡ slot_at m n u v t l + 1
unfolding slot_at
righter m n u v t l = omega arith

lower : (m n u v t l : ℕ) → slot_at m n u v (t + 1) l ≡ slot_at m n u v t l + (n - v)
unfolding slot_at
lower m n u v t l = omega (arith, add-mul t 1 (n - v), one-mul (n - v))

-- ── From cut to cut ──

pub first_next : (d : Dir) {m n : ℕ} {p : Piece} (k : ℕ) → Inside m n p → k + 1 < reach d p
    → slot_of m n (first_part d (k + 2) p) + short d n p ≡ slot_of m n (first_part d (k + 1) p) + (cells d m n - k) * change d m n p
unfolding slot_of
first_next across {m} {n} {p} k i h =
    let a : k + 2 - 1 ≡ k + 1 = omega arith in
    let b : k + 1 - 1 ≡ k = omega arith in
    rw (a, b) (wider m n (p.height - 1) k p.top p.left (omega arith))
first_next down {m} {n} {p} k i h =
    let a : k + 2 - 1 ≡ k + 1 = omega arith in
    let b : k + 1 - 1 ≡ k = omega arith in
    rw (a, b) (taller m n k (p.width - 1) p.top p.left (omega arith))

with-own : (n w : ℕ) → 1 ≤ w → stretches n w ≡ stretches n (w - 1) + (n - (w - 1))
with-own n w h = let e : w - 1 + 1 ≡ w = omega arith in ap (stretches n) (sym e) ∙ stretches-next n (w - 1)

-- what k + 1 of w cells leave is one less than what k leave; and by how much it falls short of n
one_less : (w k : ℕ) → k + 1 < w → w - k - 1 ≡ w - (k + 1) - 1 + 1
one_less w k h = omega arith

from_end : (n w k : ℕ) → k + 1 < w → w ≤ n → n + 2 + k - w ≡ n - (w - (k + 1) - 1)
from_end n w k h l = omega arith

pub rest-next : (d : Dir) {m n : ℕ} {p : Piece} (k : ℕ) → Inside m n p → k + 1 < reach d p
    → slot_of m n (rest_part d (k + 1) p) + (cells d m n + 2 + k - reach d p) * change d m n p ≡ slot_of m n (rest_part d k p) + shorter d n p
unfolding slot_of
rest-next across {m} {n} {p} k i h =
    let x = p.width - (k + 1) - 1 in
    let e : p.left + (k + 1) ≡ p.left + k + 1 = omega arith in
    rw (one_less p.width k h, from_end n p.width k h (omega arith), e)
    (omega (arith, wider m n (p.height - 1) x p.top (p.left + k) (omega arith), righter m n (p.height - 1) x p.top (p.left + k)))
rest-next down {m} {n} {p} k i h =
    let x = p.height - (k + 1) - 1 in
    let e : p.top + (k + 1) ≡ p.top + k + 1 = omega arith in
    rw (one_less p.height k h, from_end m p.height k h (omega arith), e)
    (omega
    (arith, taller m n x (p.width - 1) (p.top + k) p.left (omega arith), lower m n x (p.width - 1) (p.top + k) p.left, with-own n p.width i.wide))
