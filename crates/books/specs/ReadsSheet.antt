-- What refuses a sheet of a press, in words of the bytes: how far reading got, and what stands there.
use Rattle.std.specs.Prelude.{ℕ, ◌*◌, ◌<◌, ◌≡◌, List, length}
use Rattle.names.specs.Pick.{fault}
use Rattle.names.specs.Reads.{Reads, ReadsIn, ReadsBelow}
use Rattle.names.specs.ReadsList.{ListRead, ListFault}
use Rattle.names.specs.Fault.{Fault}
use Rattle.names.specs.Read.{Value, Refused}
use Rattle.books.specs.InTurn.{InTurn}
use Rattle.books.specs.Press.{greatest_of}

-- the colours and the ticket were read, and the rows are due
pub data TicketRead (s : List ℕ) (colours at : ℕ) : Type 0 where
  ticket_read : (from ticket : ℕ) → ListRead s colours from → Reads s from (Value ticket at) → TicketRead s colours at

-- ... the rows too, and the columns are due
pub data RowsRead (press : ℕ) (s : List ℕ) (colours rows at : ℕ) : Type 0 where
  rows_read : (from : ℕ) → TicketRead s colours from → ReadsIn s from 1 (greatest_of press) (Value rows at) → RowsRead press s colours rows at

-- the cell that stands from a place up to another
abbrev pub CellStands : List ℕ → ℕ → ℕ → ℕ → ℕ → Type 0
CellStands s colours at cell next = ReadsBelow s at colours 6 (Value cell next)

-- ... the columns and these cells too, and the next of so many cells is due, or the end
pub data CellsSoFar (press : ℕ) (s : List ℕ) (colours count : ℕ) (cells : List ℕ) (at : ℕ) : Type 0 where
  cells_so_far : (from rows cols first : ℕ) → RowsRead press s colours rows from → ReadsIn s from 1 (greatest_of press) (Value cols first) → count ≡ rows * cols
      → InTurn (CellStands s colours) first cells at → CellsSoFar press s colours count cells at

-- what refuses a sheet: its colours, its ticket, rows or columns outside their range (3), a cell's colour not below its count (6), or bytes after its
-- last cell (8)
pub data SheetFault (press : ℕ) (s : List ℕ) (f : Fault) : Type 0 where
  no_list : ListFault s f → SheetFault press s f
  no_ticket : (colours at : ℕ) → ListRead s colours at → Reads s at (Refused f) → SheetFault press s f
  no_rows : (colours at : ℕ) → TicketRead s colours at → ReadsIn s at 1 (greatest_of press) (Refused f) → SheetFault press s f
  no_columns : (colours rows at : ℕ) → RowsRead press s colours rows at → ReadsIn s at 1 (greatest_of press) (Refused f) → SheetFault press s f
  no_cell : (colours count at : ℕ) (before : List ℕ) → CellsSoFar press s colours count before at → length before < count
      → ReadsBelow s at colours 6 (Refused f) → SheetFault press s f
  more_bytes : (colours count at : ℕ) (cells : List ℕ) → CellsSoFar press s colours count cells at → length cells ≡ count
      → at < length s → f ≡ fault 8 at → SheetFault press s f
