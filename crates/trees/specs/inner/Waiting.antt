-- The parts of a sheet that wait to be judged, one after another.
use Rattle.std.specs.Prelude.{ℕ, zero, suc, ◌*◌, List, [], ◌∷◌, Result, Ok, Err, get_or}
use Rattle.books.specs.declared.rule.Rule.{Rule}
use Rattle.books.specs.declared.size.Size.{Size}
use Rattle.pieces.specs.Most.{most}
use Rattle.pieces.specs.declared.part.Part.{Part}
use Rattle.trees.specs.declared.node.Node.{Node}
use Rattle.trees.specs.inner.OnSheets.{judged_at}

-- more parts than can wait at once
abbrev pub most_waiting : ℕ
most_waiting = 2 * most

-- a verdict, and what comes after it where all is right
abbrev pub after : Result ℕ ℕ → (ℕ → Result ℕ ℕ) → Result ℕ ℕ
after (Ok e) go = go e
after (Err e) go = Err e

-- the nodes from a place on, held to one part after another
unfoldable pub judged_all : Size → List ℕ → List Rule → List Part → List Node → ℕ → Result ℕ ℕ
judged_all s cells rules [] ns at = Ok at
judged_all s cells rules (x ∷ xs) ns at = after (judged_at s cells rules x ns at) (λ e. judged_all s cells rules xs ns e)

-- where no part waits
abbrev pub no_part : Part
no_part = record { piece = record { height = 0; width = 0; top = 0; left = 0 }; motif = 0 }

-- the first so many parts of an array, the last of them first
unfoldable pub lined : List Part → ℕ → List Part
lined waiting zero = []
lined waiting (suc n) = get_or waiting n no_part ∷ lined waiting n
