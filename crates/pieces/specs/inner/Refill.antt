-- What making entries anew asks for, and how the pieces that have a cell are passed.
use Rattle.std.specs.Prelude.{ℕ, ◌+◌, ◌≤◌, ◌<◌, Bool, List, ltb}
use Rattle.names.specs.Pick.{and_then}
use Rattle.books.specs.Size.{Within}
use Rattle.books.specs.declared.size.Size.{Size}
use Rattle.pieces.specs.declared.piece.Piece.{Piece}
use Rattle.pieces.specs.Most.{most}
use Rattle.pieces.specs.Pieces.{Inside, total, slot_of}
use Rattle.pieces.specs.Refill.{HasCell}
use Rattle.pieces.specs.inner.Seen.{Tabled}

-- a stretch, one place further, still has the cell and lies in the row
unfoldable pub goes_further : ℕ → ℕ → ℕ → ℕ → Bool
goes_further n cell from long = and_then (ltb from cell) (λ _. ltb (from + long) n)

-- what making entries anew asks for: the table of a sheet, and a cell of the sheet
pub record RefillDue (s : Size) (work : List ℕ) (row column : ℕ) : Type 0 where
  pub tabled : Tabled s work
  pub row_on : row < s.rows
  pub column_on : column < s.cols

-- a piece of a sheet that there is room for, with the cell
pub record OnWith (s : Size) (row column : ℕ) (p : Piece) : Type 0 where
  pub room : Within most s.rows s.cols
  pub inside : Inside s.rows s.cols p
  pub has : HasCell row column p

-- q is the next piece after p that has the cell, or a piece taller than the sheet where p is the last
pub record NextWith (m n row column : ℕ) (p q : Piece) : Type 0 where
  pub later : slot_of m n p < slot_of m n q
  pub none_between : (x : Piece) → Inside m n x → HasCell row column x → slot_of m n p < slot_of m n x → slot_of m n q ≤ slot_of m n x
  pub still : q.height ≤ m → Inside m n q × HasCell row column q
  pub ended : m < q.height → total m n ≤ slot_of m n q
