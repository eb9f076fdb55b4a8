-- Of the entries of so many cells the first that is 0 stands at the least bare number: below that none is, and where it is below the cells it is one.
use Prim.Native.Nat.{ℕ, ◌≤◌, ◌<◌}
use mathlib.Core.Path.{◌≡◌, ◌∙◌}
use mathlib.Core.Bool.{true, false}
use mathlib.Core.List.{List}
use mathlib.Core.Logic.{◌⊎◌, inl, inr}
use native.Mathlib.Omega.{arith}
use borrow.Author.Tests.{ltb-true, ltb-false}
use lib.ListN.{length, take}
use lib.Seq.{get_or-take, length-take-le}
use Rattle.std.specs.Prelude.{Option, Some, None, cond, nat_lt, ◌==◌, position}
use Rattle.std.specs.List.{position_or_len}
use Rattle.std.proofs.lemmas.List.Sums.{position_or_len_is}
use Rattle.names.proofs.Tests.{true-or-false}
use Rattle.names.specs.Counted.{least}
use Rattle.names.proofs.Least.{least-is}
use Rattle.reasons.specs.inner.FromTable.{bare}

picked : (k n i : ℕ) → Some i ≡ cond (nat_lt k n) (Some k) None → (i ≡ k) × (k < n)
picked k n i e = go (true-or-false (nat_lt k n))
  where
    go : (nat_lt k n ≡ true) ⊎ (nat_lt k n ≡ false) → (i ≡ k) × (k < n)
    go (inl t) = let same = rw t at e in (cc, ltb-true k n t)
    go (inr f) = let none = rw f at e in absurd cc

passed : (k n : ℕ) → None ≡ cond (nat_lt k n) (Some k) None → n ≤ k
passed k n e = go (true-or-false (nat_lt k n))
  where
    go : (nat_lt k n ≡ true) ⊎ (nat_lt k n ≡ false) → n ≤ k
    go (inl t) = let some = rw t at e in absurd cc
    go (inr f) = ltb-false k n f

module _ (work : List ℕ) (cells : ℕ) (held : cells ≤ length work) where
  abbrev first : ℕ
  first = least (bare work) 0 cells

  abbrev entries : List ℕ
  entries = take cells work

  long : length entries ≡ cells
  long = length-take-le cells work held

  first-is : position_or_len (λ (entry : ℕ). entry == 0) entries ≡ first
  unfolding bare
  first-is =
      let l = least-is (bare work) 0 cells in
      position_or_len_is (λ (entry : ℕ). entry == 0) entries first 0 (omega (arith, l.upto, long))
      (λ k h. rw (get_or-take cells work k 0 (omega (arith, l.upto))) (l.lower k (omega arith) h))
      (λ h. let low : first < cells = omega (arith, long) in rw (get_or-take cells work first 0 low) (l.accepted (omega (arith, low))))

  abbrev found : Option ℕ
  found = position (λ (entry : ℕ). entry == 0) entries

  pub bare-found : (i : ℕ) → Some i ≡ found → (i ≡ first) × (i < cells)
  bare-found i e = let (same, low) = picked _ _ i e in (same ∙ first-is, omega (arith, same, low, long))

  pub none-bare : None ≡ found → cells ≤ first
  none-bare e = omega (arith, passed _ _ e, first-is, long)
