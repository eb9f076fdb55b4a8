-- The ticket has no part in why a sheet is not in the family: two accepted sheets, as bytes, that are the same but for the ticket get the same answer and the same
-- reason, and leave the same table, since why-not goes by the picture of an accepted sheet.
use Prim.Native.Nat.{ℕ}
use mathlib.Core.Path.{◌≡◌}
use mathlib.Core.List.{List}
use Rattle.books.specs.Tickets.{SameButTicket}
use Rattle.books.proofs.Tickets.{ticket-alike}
use Rattle.reasons.specs.Why.{refused, roomed, why_not}

pub ticket-alone : (press : ℕ) (book s t entries : List ℕ) → SameButTicket press s t → why_not press book t entries ≡ why_not press book s entries
unfolding why_not
ticket-alone press book s t entries = ticket-alike press book s t (λ a. refused a entries) (λ b p. roomed b p entries)
