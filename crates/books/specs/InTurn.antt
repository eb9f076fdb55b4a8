-- Things that stand one after another in an input: which of them were read, and where the next is due.
use Rattle.std.specs.Prelude.{ℕ, ◌≡◌, List, [], ◌∷◌, ◌++◌}

-- these were read from a place on, each where the one before it ends, and the next is due at another: `Stands there x at` says that x stands from
-- there up to at
pub data InTurn {A : Type 0} (Stands : ℕ → A → ℕ → Type 0) (from : ℕ) : List A → ℕ → Type 0 where
  none_yet : {xs : List A} {at : ℕ} → xs ≡ [] → at ≡ from → InTurn Stands from xs at
  one_more : {xs : List A} {at : ℕ} (before : List A) (x : A) (there : ℕ) → InTurn Stands from before there → Stands there x at
      → xs ≡ before ++ (x ∷ []) → InTurn Stands from xs at
