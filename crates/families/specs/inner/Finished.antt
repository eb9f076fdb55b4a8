-- How what was made is finished.
use Rattle.std.specs.Prelude.{ℕ, List, Option, Some, None}
use Rattle.books.specs.Answer.{plain}
use Rattle.drafts.specs.Draft.{draft_in, DraftFits}
use Rattle.drafts.specs.Outcome.{Outcome, refused, written}
use Rattle.drafts.specs.declared.draft.Draft.{Draft}

-- a draft is written, and what was not drafted is refused
abbrev pub finished : List ℕ → List ℕ → Option Draft → List ℕ → Outcome
finished s t None out = refused (plain 12) out
finished s t (Some d) out = written (draft_in s t d) out

-- the counts of what is written are within its arrays
abbrev pub Ready : Option Draft → Type 0
Ready None = Unit {0}
Ready (Some d) = DraftFits d
