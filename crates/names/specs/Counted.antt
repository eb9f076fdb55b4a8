-- Numbers passed one after another: a list made of what each gives, and the least that a test accepts.
use Rattle.std.specs.Prelude.{ℕ, zero, suc, Bool, true, false, List, [], ◌++◌}

-- f 0, then f 1, .., then f (n - 1)
unfoldable pub each : {A : Type 0} → ℕ → (ℕ → List A) → List A
each zero f = []
each (suc n) f = each n f ++ f n

-- the least of n numbers from i on that a test accepts, or the number after them
unfoldable pub least : (ℕ → Bool) → ℕ → ℕ → ℕ
least t i zero = i
least t i (suc n) = elim (t i) [ true ↦ i | false ↦ least t (suc i) n ]
