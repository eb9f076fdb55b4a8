-- The cuts of a size in one direction as the code goes along them: from cut to cut the first part goes on by a step, from its first entry, and the
-- second part goes back by it, from the entry that is due.
use Rattle.std.specs.Prelude.{ℕ, ◌+◌, ◌-◌, ◌*◌, List, get_or}
use Rattle.pieces.specs.Firing.{gathered}

unfoldable pub along : (ℕ → ℕ → ℕ) → List ℕ → ℕ → ℕ → ℕ → ℕ → ℕ
along fire t first due step cuts = gathered cuts (λ k. fire (get_or t (first + k * step) 0) (get_or t (due - (k + 1) * step) 0))
