-- The contents of a sheet, what they must keep, and the picture that they are.
use Rattle.std.specs.Prelude.{ℕ, ◌+◌, ◌*◌, ◌≤◌, ◌<◌, ◌≡◌, List, [], length, get_or}
use Rattle.names.specs.Number.{greatest_number}
use Rattle.names.specs.Name.{Name}
use Rattle.names.specs.Spelling.{ColoursOk}
use Rattle.books.specs.Picture.{Picture}
use Rattle.books.specs.Press.{greatest_of}
use Rattle.books.specs.Size.{Within}

-- colour names in order, the job ticket, rows, columns, and a colour number for each cell, row by row
pub record Grid : Type 0 where
  pub colours : List Name
  pub ticket : ℕ
  pub rows : ℕ
  pub cols : ℕ
  pub cells : List ℕ

-- what they must keep on a press
pub record GridKeeps (press : ℕ) (g : Grid) : Type 0 where
  pub colours_ok : ColoursOk g.colours
  pub ticket_few : g.ticket ≤ greatest_number
  pub within : Within (greatest_of press) g.rows g.cols
  pub cells_all : length g.cells ≡ g.rows * g.cols
  pub cells_fit : (i : ℕ) → i < length g.cells → get_or g.cells i 0 < length g.colours

-- each cell shows its colour's name; the ticket has no part in it
abbrev pub picture : Grid → Picture
picture g =
    record {
      rows = g.rows;
      cols = g.cols;
      cell = λ i j. get_or g.colours (get_or g.cells (i * g.cols + j) 0) [];
    }
