-- The stretches of a row of cells, counted: one length more, in closed form, and the bound that the code's numbers need.
use mathlib.Core.Path.{◌≡◌, refl, sym, ap, ◌∙◌}
use Prim.Native.Nat.{ℕ, zero, suc, ◌+◌, ◌-◌, ◌*◌, ◌/◌, ◌≤◌}
use native.Mathlib.Nat.{suc-mul, zero-mul, mul-add, le_trans, mul-le-mul}
use native.Mathlib.Numerals.{add-one}
use native.Mathlib.Omega.{arith}
use Rattle.pieces.specs.Pieces.{stretches, total}
use Rattle.pieces.proofs.Sums.{sum, sum_mono}

pub stretches-next : (n k : ℕ) → stretches n (k + 1) ≡ stretches n k + (n - k)
unfolding stretches
stretches-next n k = rw add-one

pub stretches-sum : (n k : ℕ) → stretches n k ≡ sum k (λ i. n - i)
unfolding stretches sum
stretches-sum n zero = refl
stretches-sum n (suc k) = omega (arith, stretches-sum n k)

twice : (n k : ℕ) → k ≤ n → stretches n k * 2 ≡ k * (2 * n + 1 - k)
unfolding stretches
twice n zero h = sym (zero-mul (2 * n + 1 - 0))
twice n (suc k) h =
    let a : stretches n k * 2 ≡ k * (2 * n + 1 - k) = twice n k (omega arith) in
    let b : 2 * n + 1 - k ≡ 2 * n - k + 1 = omega arith in
    let d : 2 * n + 1 - suc k ≡ 2 * n - k = omega arith in
    let e : k * (2 * n + 1 - k) ≡ k * (2 * n - k) + k * 1 = ap (λ (x : ℕ). k * x) b ∙ mul-add k (2 * n - k) 1 in
    let g : suc k * (2 * n + 1 - suc k) ≡ k * (2 * n - k) + (2 * n - k) = ap (λ (x : ℕ). suc k * x) d ∙ suc-mul k (2 * n - k) in
    omega arith

pub stretches-closed : (n k : ℕ) → k ≤ n → stretches n k ≡ k * (2 * n + 1 - k) / 2
stretches-closed n k h = omega (arith, twice n k h)

pub stretches-all : (n : ℕ) → stretches n n ≡ n * (n + 1) / 2
stretches-all n =
    let e : n * (2 * n + 1 - n) ≡ n * (n + 1) = ap (λ (x : ℕ). n * x) (omega arith) in
    omega (arith, twice n n (omega arith))

pub total-stretches : (m n : ℕ) → total m n ≡ stretches m m * stretches n n
total-stretches m n = rw (stretches-all m, stretches-all n)

pub stretches-mono : (n i k : ℕ) → i ≤ k → stretches n i ≤ stretches n k
stretches-mono n i k h = omega (arith, stretches-sum n i, stretches-sum n k, sum_mono (λ j. n - j) i k h)

stretches-le : (n k : ℕ) → stretches n k ≤ k * n
unfolding stretches
stretches-le n zero = omega arith
stretches-le n (suc k) = omega (arith, stretches-le n k, suc-mul k n)

-- ── Bounds, for any greatest number of rows and columns ──

pub stretches-few : (top n k : ℕ) → n ≤ top → k ≤ top → stretches n k ≤ top * top
stretches-few top n k h g = le_trans (stretches-le n k) (mul-le-mul g h)

pub half-few : (top n : ℕ) → n ≤ top → n * (n + 1) / 2 ≤ top * (top + 1) / 2
half-few top n h =
    let more : n + 1 ≤ top + 1 = omega arith in
    let double : n * (n + 1) ≤ top * (top + 1) = mul-le-mul h more in
    omega arith

pub total-few : (top m n : ℕ) → m ≤ top → n ≤ top → total m n ≤ total top top
total-few top m n h g = mul-le-mul (half-few top m h) (half-few top n g)
