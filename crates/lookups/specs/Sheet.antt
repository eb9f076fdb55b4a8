-- What a C host looks up in a sheet of a press: its size, a cell, and the name of a colour. A refused sheet has none of them, and so has every one where
-- there is no such press.
use Rattle.std.specs.Prelude.{ℕ, ◌+◌, ◌*◌, ◌^◌, List, ltb, get_or}
use Rattle.names.specs.Pick.{pick}
use Rattle.books.specs.Calls.{size_of}
use Rattle.books.specs.ContentsIn.{grid_in}
use Rattle.books.specs.Grid.{Grid}
use Rattle.books.specs.Sheet.{sheet_of}
use Rattle.books.specs.declared.size.Size.{Size}
use Rattle.lookups.specs.Colour.{place_with}

-- rows, and columns above 2 ^ 32
abbrev pub packed_size : Size → ℕ
packed_size z = z.rows + 2 ^ 32 * z.cols

abbrev pub size_shown : ℕ → List ℕ → ℕ
size_shown press s = packed_size (size_of press s)

-- the number that the colour of a cell has in the sheet's list, and 1 above it, so that no cell is 0
unfoldable pub cell_with : Grid → ℕ → ℕ → ℕ
cell_with g row column = pick (ltb row g.rows) (pick (ltb column g.cols) (get_or g.cells (row * g.cols + column) 0 + 2 ^ 32) 0) 0

abbrev pub cell_shown : ℕ → List ℕ → ℕ → ℕ → ℕ
cell_shown press s row column = cell_with (grid_in s (sheet_of press s).sheet) row column

-- where the name of a colour starts in the sheet, and how long it is above 2 ^ 32
abbrev pub sheet_colour_shown : ℕ → List ℕ → ℕ → ℕ
sheet_colour_shown press s k = place_with s (sheet_of press s).sheet.colours k
