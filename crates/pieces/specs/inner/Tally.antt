-- How many trials the loops make: at each cut of a piece one for each join of its direction, over the pieces one after the other.
use Rattle.std.specs.Prelude.{ℕ, ◌+◌, ◌-◌, ◌*◌, List, [], ◌∷◌, drop}
use Rattle.pieces.specs.Pieces.{pieces}
use Rattle.pieces.specs.declared.masks.Joined.{Joined}
use Rattle.pieces.specs.declared.masks.Joins.{Joins}
use Rattle.pieces.specs.declared.piece.Piece.{Piece}

-- what a loop found, and the trials that it made
abbrev pub joined : ℕ → ℕ → Joined
joined heads trials = record { heads = heads; trials = trials }

-- f of each, added up
unfoldable pub tally : {A : Type 0} → (A → ℕ) → List A → ℕ
tally f [] = 0
tally f (x ∷ xs) = f x + tally f xs

abbrev pub tried_at : Joins → Piece → ℕ
tried_at j p = (p.width - 1) * j.across + (p.height - 1) * j.down

-- the cells stand first, and have no cuts
unfoldable pub tried_by : Joins → ℕ → ℕ → ℕ
tried_by j m n = tally (tried_at j) (drop (m * n) (pieces m n))
