-- The ticket has no part in a derivation: a sheet with another ticket gets the same answer, the same table and the same tree, since a derivation
-- goes by the picture of an accepted sheet.
use Prim.Native.Nat.{ℕ, ◌≤◌}
use mathlib.Core.Path.{◌≡◌, sym, ap, ap₂, ◌∙◌}
use mathlib.Core.List.{List}
use Rattle.names.specs.Number.{greatest_number}
use Rattle.names.specs.Fault.{Fault}
use Rattle.books.specs.Grid.{Grid, GridKeeps}
use Rattle.books.specs.SpellSheet.{spell_sheet}
use Rattle.books.proofs.SpellingSheets.{sheet-read-back}
use Rattle.books.specs.Tickets.{with_ticket, SameButTicket}
use Rattle.books.proofs.Tickets.{ticket-keeps, ticket-alike}
use Rattle.pieces.specs.Derivation.{leaving, roomed, derivation}

-- From bytes: two accepted sheets that are the same but for the ticket, whatever the book and the lent slices.
pub ticket-alone : (press : ℕ) (book s t entries numbers : List ℕ) → SameButTicket press s t → derivation press book t entries numbers ≡ derivation press book s entries numbers
unfolding derivation
ticket-alone press book s t entries numbers = ticket-alike press book s t (λ a. leaving a entries numbers) (λ b p. roomed b p entries numbers)

-- From contents: a sheet that keeps the rules, and the same with another ticket.
pub ticket-apart : (press : ℕ) (book : List ℕ) (g : Grid) (n : ℕ) (entries numbers : List ℕ) → GridKeeps press g → n ≤ greatest_number
    → derivation press book (spell_sheet (with_ticket n g)) entries numbers ≡ derivation press book (spell_sheet g) entries numbers
ticket-apart press book g n entries numbers k h =
    let (fine, is) = sheet-read-back press g k in
    let (other_fine, other_is) = sheet-read-back press (with_ticket n g) (ticket-keeps press n g h k) in
    ticket-alone press book (spell_sheet g) (spell_sheet (with_ticket n g)) entries numbers
    (record {
      first_fine = ap (λ (f : Fault). f.number) fine;
      second_fine = ap (λ (f : Fault). f.number) other_fine;
      else_same = other_is ∙ sym (ap₂ with_ticket (ap (λ (x : Grid). x.ticket) other_is) is);
    })
