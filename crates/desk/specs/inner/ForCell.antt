-- What recolouring asks of the sheet, the masks and the cell, and what its functions tell.
use Rattle.std.specs.Prelude.{ℕ, ◌+◌, ◌*◌, ◌≤◌, ◌<◌, ◌≡◌, List, ltb, get_or}
use Rattle.names.specs.Pick.{pick}
use Rattle.names.specs.declared.colours.Colours.{Colours}
use Rattle.books.specs.Numbering.{numbers_for}
use Rattle.books.specs.Sheet.{sheet_of}
use Rattle.books.specs.Size.{Within}
use Rattle.books.specs.declared.size.Size.{Size}
use Rattle.pieces.specs.Most.{most}
use Rattle.pieces.specs.Pieces.{total}
use Rattle.pieces.specs.Masks.{painters_from, all_masks}
use Rattle.desk.specs.Recolour.{has?}

-- the painters of the cell of a press's sheet at a place, row by row
unfoldable pub painters_of : ℕ → List ℕ → Colours → List ℕ → List ℕ → ℕ → ℕ
painters_of press book c masks sheet at = get_or masks (painters_from + get_or (numbers_for book c sheet (sheet_of press sheet).sheet) at 0) 0

-- 19 where a sheet of a size with so many colours has not got the row, the column or the colour, 9 where so many entries are too few
unfoldable pub lacking_for : Size → ℕ → ℕ → ℕ → ℕ → ℕ → ℕ
lacking_for s colours row column colour entries = pick (has? s colours row column colour) (pick (ltb entries (total s.rows s.cols)) 9 0) 19

-- a cell of a sheet of so many bytes, and a colour that is one byte
pub record CellDue (s : Size) (long row column colour : ℕ) : Type 0 where
  pub sizes : Within most s.rows s.cols
  pub cells : s.rows * s.cols ≤ long
  pub row_on : row < s.rows
  pub column_on : column < s.cols
  pub byte : colour < 256

-- a cell of an accepted sheet, and so many masks
pub record PaintersDue (press : ℕ) (sheet : List ℕ) (masks at : ℕ) : Type 0 where
  pub accepted : (sheet_of press sheet).fault.number ≡ 0
  pub fit : masks ≡ all_masks
  pub cell : at < (sheet_of press sheet).sheet.size.rows * (sheet_of press sheet).sheet.size.cols
