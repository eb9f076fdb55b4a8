-- The cells by their numbers, row by row: a number is so many whole rows and a column, and a cell that comes before another has a smaller one.
use Prim.Native.Nat.{ℕ, suc, ◌+◌, ◌*◌, ◌/◌, ◌%◌, ◌≤◌, ◌<◌}
use mathlib.Core.Path.{ap}
use mathlib.Core.Logic.{inl, inr}
use native.Mathlib.Nat.{suc-mul, mul-le-mul_right, mod-lt, div-add-mod', div-lt_iff_lt-mul}
use native.Mathlib.Omega.{arith}
use Rattle.reasons.specs.Holds.{Before}

module _ (n k : ℕ) (some : 1 ≤ n) where
  pub row_of : (m : ℕ) → k < m * n → k / n < m
  row_of m h = (div-lt_iff_lt-mul some).1 h

  pub column-of : k % n < n
  column-of = mod-lt k some

  pub number-before : (i j : ℕ) → j < n → Before i j (k / n) (k % n) → i * n + j < k
  number-before i j h (inl less) =
      let rows : suc i * n ≤ k / n * n = mul-le-mul_right n less in
      omega (arith, suc-mul i n, div-add-mod' k n)
  number-before i j h (inr (same, less)) = omega (arith, ap (λ (x : ℕ). x * n) same, div-add-mod' k n)
