-- The table begins with the cells, row by row: they are the pieces of one row and one column, and all others come after the last of them.
use mathlib.Core.Path.{◌≡◌, ap}
use mathlib.Core.Logic.{◌⊎◌, inl, inr}
use Prim.Native.Nat.{ℕ, suc, ◌+◌, ◌-◌, ◌*◌, ◌≤◌, ◌<◌}
use native.Mathlib.Nat.{zero-mul, mul-zero, add-mul, one-mul, mul-le-mul_right}
use native.Mathlib.Omega.{arith}
use native.Mathlib.Decide.{dec_lt}
use Rattle.pieces.specs.Pieces.{piece, Inside, total, stretches, slot_at, slot_of}
use Rattle.pieces.specs.declared.piece.Piece.{Piece}
use Rattle.pieces.proofs.Slots.{narrower, flatter, slot_lt}

pub slot-cell : (m n t l : ℕ) → slot_of m n (piece 1 1 t l) ≡ t * n + l
unfolding slot_of slot_at stretches
slot-cell m n t l =
    let e : n - 0 ≡ n = omega arith in
    omega (arith, mul-zero (m - 0), ap (λ (x : ℕ). t * x) e, zero-mul (stretches n n))

pub slot-last-cell : (m n : ℕ) → 1 ≤ m → 1 ≤ n → slot_of m n (piece 1 1 (m - 1) (n - 1)) + 1 ≡ m * n
slot-last-cell m n hm hn =
    let a : (m - 1 + 1) * n ≡ m * n = ap (λ (x : ℕ). x * n) (omega arith) in
    omega (arith, slot-cell m n (m - 1) (n - 1), add-mul (m - 1) 1 n, one-mul n)

pub last-cell_inside : (m n : ℕ) → 1 ≤ m → 1 ≤ n → Inside m n (piece 1 1 (m - 1) (n - 1))
last-cell_inside m n hm hn = record { tall = omega arith; wide = omega arith; low = omega arith; right = omega arith }

pub cells-few : (m n : ℕ) → 1 ≤ m → 1 ≤ n → m * n ≤ total m n
cells-few m n hm hn = omega (arith, slot-last-cell m n hm hn, slot_lt m n (piece 1 1 (m - 1) (n - 1)) (last-cell_inside m n hm hn))

pub cell-before : (m n t l : ℕ) → t < m → l < n → t * n + l < m * n
cell-before m n t l ht hl =
    let a : suc t * n ≤ m * n = mul-le-mul_right n ht in
    omega (arith, add-mul t 1 n, one-mul n, ap (λ (x : ℕ). x * n) (one_more t))
  where
    one_more : (t : ℕ) → t + 1 ≡ suc t
    one_more t = omega arith

-- A piece is a cell or larger, and the larger ones come after all cells.
pub cell-or-larger : (m n : ℕ) (p : Piece) → Inside m n p → (2 < p.height + p.width) ⊎ (piece 1 1 p.top p.left ≡ p)
cell-or-larger m n p i = go (dec_lt 2 (p.height + p.width))
  where
    one : {x y : ℕ} → x ≡ p.height → y ≡ p.width → piece x y p.top p.left ≡ p
    one u v = rw (u, v)

    go : Dec (2 < p.height + p.width) → (2 < p.height + p.width) ⊎ (piece 1 1 p.top p.left ≡ p)
    go (yes l) = inl l
    go (no l) = inr (one (omega arith) (omega arith))

pub large-after : (m n : ℕ) (p : Piece) → Inside m n p → 2 < p.height + p.width → m * n ≤ slot_of m n p
unfolding slot_of
large-after m n p i h = go (dec_lt 1 p.height)
  where
    go : Dec (1 < p.height) → m * n ≤ slot_of m n p
    go (yes l) =
        omega (
          arith,
          slot-last-cell m n (omega arith) (omega arith),
          flatter m n 0 0 (m - 1) (n - 1) (omega arith) (omega arith) (omega arith) (p.height - 1) (p.width - 1) p.top p.left (omega arith),
        )
    go (no l) =
        let e : p.height - 1 ≡ 0 = omega arith in
        rw e
        (omega (
          arith,
          slot-last-cell m n (omega arith) (omega arith),
          narrower m n 0 0 (m - 1) (n - 1) (omega arith) (omega arith) (p.width - 1) p.top p.left (omega arith),
        ))
