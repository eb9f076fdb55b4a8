-- Sheets that differ in the ticket alone.
use Rattle.std.specs.Prelude.{ℕ, ◌≡◌, List}
use Rattle.books.specs.Calls.{ticket_of}
use Rattle.books.specs.ContentsIn.{grid_in}
use Rattle.books.specs.Grid.{Grid}
use Rattle.books.specs.Sheet.{sheet_of}

-- the sheet with another ticket
abbrev pub with_ticket : ℕ → Grid → Grid
with_ticket n g = record { colours = g.colours; ticket = n; rows = g.rows; cols = g.cols; cells = g.cells }

-- two sheets as bytes, both accepted, whose contents are the same but for the ticket
pub record SameButTicket (press : ℕ) (s t : List ℕ) : Type 0 where
  pub first_fine : (sheet_of press s).fault.number ≡ 0
  pub second_fine : (sheet_of press t).fault.number ≡ 0
  pub else_same : grid_in t (sheet_of press t).sheet ≡ with_ticket (ticket_of press t) (grid_in s (sheet_of press s).sheet)
