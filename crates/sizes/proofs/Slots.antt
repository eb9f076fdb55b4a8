-- Where the parts of a size stand in the table: before the size itself, at places that go by one from column to column and by the table's columns from row
-- to row.
use Prim.Native.Nat.{ℕ, ◌+◌, ◌-◌, ◌*◌, ◌/◌, ◌%◌, ◌≤◌, ◌<◌}
use mathlib.Core.Path.{◌≡◌, ap₂}
use native.Mathlib.Nat.{add-mul, mul-le-mul_right, one-mul, mul-one, div-add-mod'}
use native.Mathlib.Omega.{arith}
use lib.Arith.{digits_div, digits_mod}
use Rattle.books.specs.declared.rule.Dir.TheVariants.{Across as across, Down as down}
use Rattle.books.specs.declared.rule.Dir.{Dir}
use Rattle.books.specs.declared.size.Size.{Size}
use Rattle.books.specs.Size.{size_by as by}
use Rattle.sizes.specs.Size.{reach, first_part, rest_part}
use Rattle.sizes.specs.Table.{slot, slot_size}
use Rattle.sizes.specs.inner.Entries.{OfTable}

-- So many rows of n places, and one more.
pub row_more : (k n : ℕ) → (k + 1) * n ≡ k * n + n
row_more k n = omega (arith, add-mul k 1 n, one-mul n)

pub row_fits : (k m n : ℕ) → k < m → k * n + n ≤ m * n
row_fits k m n h =
    let f : (k + 1) * n ≤ m * n = mul-le-mul_right n (omega arith) in
    omega (arith, row_more k n)

module _ (n : ℕ) (s : Size) (w : OfTable n s) where
  pub first-within : (d : Dir) (k : ℕ) → 1 ≤ k → k < reach d s → OfTable n (first_part d k s)
  first-within across k h l = record { rows_some = w.rows_some; cols_some = h; cols_few = omega (arith, w.cols_few) }
  first-within down k h l = record { rows_some = h; cols_some = w.cols_some; cols_few = w.cols_few }

  pub rest-within : (d : Dir) (k : ℕ) → 1 ≤ k → k < reach d s → OfTable n (rest_part d k s)
  rest-within across k h l = record { rows_some = w.rows_some; cols_some = omega arith; cols_few = omega (arith, w.cols_few) }
  rest-within down k h l = record { rows_some = omega arith; cols_some = w.cols_some; cols_few = w.cols_few }

  pub first-before : (d : Dir) (k : ℕ) → 1 ≤ k → k < reach d s → slot n (first_part d k s) < slot n s
  first-before across k h l = omega arith
  first-before down k h l = omega (arith, row_fits (k - 1) (s.rows - 1) n (omega arith), w.cols_some, w.cols_few)

  pub rest-before : (d : Dir) (k : ℕ) → 1 ≤ k → k < reach d s → slot n (rest_part d k s) < slot n s
  rest-before across k h l = omega arith
  rest-before down k h l = omega (arith, row_fits (s.rows - k - 1) (s.rows - 1) n (omega arith), w.cols_some, w.cols_few)

  -- A slot tells its size, ...
  pub size_at-slot : slot_size n (slot n s) ≡ s
  size_at-slot =
      let row : slot n s / n ≡ s.rows - 1 = digits_div (s.rows - 1) (omega (arith, w.cols_some, w.cols_few)) in
      let col : slot n s % n ≡ s.cols - 1 = digits_mod (s.rows - 1) (omega (arith, w.cols_some, w.cols_few)) in
      ap₂ by (omega (arith, row, w.rows_some)) (omega (arith, col, w.cols_some))

-- ... and a size its slot.
pub slot_of-size : (n k : ℕ) → slot n (slot_size n k) ≡ k
slot_of-size n k =
    let row : k / n + 1 - 1 ≡ k / n = omega arith in
    let col : k % n + 1 - 1 ≡ k % n = omega arith in
    rw (row, col) (div-add-mod' k n)

-- The cut after k + 1 columns, or rows: where its first part stands, ...
abbrev pub first_slot_of : Dir → ℕ → Size → ℕ
first_slot_of across n s = (s.rows - 1) * n
first_slot_of down n s = s.cols - 1

abbrev pub step_of : Dir → ℕ → ℕ
step_of across n = 1
step_of down n = n

pub first-place : (d : Dir) (n k : ℕ) (s : Size) → first_slot_of d n s + k * step_of d n ≡ slot n (first_part d (k + 1) s)
first-place across n k s = let e : k + 1 - 1 ≡ k = omega arith in rw e (omega (arith, mul-one k))
first-place down n k s = let e : k + 1 - 1 ≡ k = omega arith in rw e (omega arith)

-- ... and where its rest does.
pub rest-place : (d : Dir) (n k : ℕ) (s : Size) → k < reach d s - 1 → slot n s - (k + 1) * step_of d n ≡ slot n (rest_part d (k + 1) s)
rest-place across n k s h = omega (arith, mul-one (k + 1))
rest-place down n k s h =
    let e : (s.rows - (k + 1) - 1) + (k + 1) ≡ s.rows - 1 = omega arith in
    let f : (s.rows - 1) * n ≡ (s.rows - (k + 1) - 1) * n + (k + 1) * n = rw (← e) (add-mul (s.rows - (k + 1) - 1) (k + 1) n) in
    omega arith
