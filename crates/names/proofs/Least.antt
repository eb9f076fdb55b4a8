-- The least number that a test accepts: it is accepted where it lies in the range, and no lower one is, since the search passes one number
-- after the other.
use Prim.Native.Nat.{ℕ, zero, suc, ◌+◌, ◌-◌, ◌≤◌, ◌<◌}
use mathlib.Core.Path.{◌≡◌, refl, sym, ◌∙◌, ap}
use mathlib.Core.Bool.{Bool, true, false}
use mathlib.Core.Logic.{◌⊎◌, inl, inr, ⊎_elim}
use native.Mathlib.Nat.{eq-or-lt_of_le}
use native.Mathlib.Omega.{arith}
use Rattle.names.proofs.Tests.{true-or-false}
use Rattle.names.specs.Counted.{least}

-- one step, by the test of the first number
here : (t : ℕ → Bool) (i n : ℕ) → t i ≡ true → least t i (suc n) ≡ i
unfolding least
here t i n e = rw (e, least)

on : (t : ℕ → Bool) (i n : ℕ) → t i ≡ false → least t i (suc n) ≡ least t (suc i) n
unfolding least
on t i n e = rw (e, least)

pub record Least (t : ℕ → Bool) (i n m : ℕ) : Type 0 where
  pub from : i ≤ m
  pub upto : m ≤ i + n
  pub accepted : m < i + n → t m ≡ true
  pub lower : (j : ℕ) → i ≤ j → j < m → t j ≡ false

pub least-is : (t : ℕ → Bool) (i n : ℕ) → Least t i n (least t i n)
unfolding least
least-is t i zero = record { from = omega arith; upto = omega arith; accepted = λ h. absurd (omega arith); lower = λ j h g. absurd (omega arith) }
least-is t i (suc n) = go (true-or-false (t i)) (least-is t (suc i) n)
  where
    go : (t i ≡ true) ⊎ (t i ≡ false) → Least t (suc i) n (least t (suc i) n) → Least t i (suc n) (least t i (suc n))
    go (inl e) w =
        rw (here t i n e)
        (record { from = omega arith; upto = omega arith; accepted = λ h. e; lower = λ j h g. absurd (omega arith) })
    go (inr e) w =
        rw (on t i n e)
        (record {
          from = omega (arith, w.from);
          upto = omega (arith, w.upto);
          accepted = λ h. w.accepted (omega arith);
          lower = λ j h g. ⊎_elim (λ (q : i ≡ j). rw (← q) e) (λ (q : i < j). w.lower j q g) (eq-or-lt_of_le h);
        })

-- Two tests that agree have the same least number.
pub least-same : (s t : ℕ → Bool) (i n : ℕ) → ((j : ℕ) → j < i + n → s j ≡ t j) → least s i n ≡ least t i n
unfolding least
least-same s t i zero same = refl
least-same s t i (suc n) same = go (true-or-false (t i)) (least-same s t (suc i) n (λ j h. same j (omega arith)))
  where
    go : (t i ≡ true) ⊎ (t i ≡ false) → least s (suc i) n ≡ least t (suc i) n → least s i (suc n) ≡ least t i (suc n)
    go (inl e) ih = here s i n (same i (omega arith) ∙ e) ∙ sym (here t i n e)
    go (inr e) ih = on s i n (same i (omega arith) ∙ e) ∙ ih ∙ sym (on t i n e)

-- The same as a loop makes it, from k up to an end.
module _ (t : ℕ → Bool) (k end : ℕ) where
  one_more : k < end → end - k ≡ suc (end - (k + 1))
  one_more h = omega arith

  pub least-found : k < end → t k ≡ true → least t k (end - k) ≡ k
  least-found h e = ap (least t k) (one_more h) ∙ here t k (end - (k + 1)) e

  pub least-passed : k < end → t k ≡ false → least t k (end - k) ≡ least t (k + 1) (end - (k + 1))
  least-passed h e = ap (least t k) (one_more h) ∙ on t k (end - (k + 1)) e ∙ ap (λ (n : ℕ). least t n (end - (k + 1))) (omega arith)

  pub least-none : end ≤ k → least t k (end - k) ≡ k
  unfolding least
  least-none h = let e : end - k ≡ 0 = omega arith in ap (least t k) e
