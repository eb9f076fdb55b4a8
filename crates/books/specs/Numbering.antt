-- The cells of a sheet by the numbers that their colours have in a book whose colours are at hand.
use Rattle.std.specs.Prelude.{ℕ, ◌*◌, ◌≡◌, List, map, ◌++◌, ltb, take, drop}
use Rattle.names.specs.Pick.{pick}
use Rattle.names.specs.Colours.{name_in, find_name}
use Rattle.names.specs.Spelling.{most_colours}
use Rattle.names.specs.declared.colours.Colours.{Colours}
use Rattle.books.specs.Cells.{no_cells}
use Rattle.books.specs.Sheet.{sheet_of, over, sheet_figures}
use Rattle.books.specs.declared.sheet.Sheet.{Sheet}
use Rattle.books.specs.SheetRead.{SheetFigures}

-- the number that colour i of a sheet has in a book, or the count of the book's colours where none has its name
abbrev pub number_of : List ℕ → Colours → List ℕ → Colours → ℕ → ℕ
number_of book c sheet d i = find_name book c (name_in sheet d i)

-- those of the cells; past the last nothing changes
abbrev pub numbers_of : List ℕ → Colours → List ℕ → Sheet → List ℕ
numbers_of book c sheet g =
    map (number_of book c sheet g.colours) (take (g.size.rows * g.size.cols) g.cells) ++ drop (g.size.rows * g.size.cols) g.cells

-- by more than 64 colours, which no book has, no cell is numbered
abbrev pub numbers_for : List ℕ → Colours → List ℕ → Sheet → List ℕ
numbers_for book c sheet g = pick (ltb most_colours c.count) no_cells (numbers_of book c sheet g)

-- a sheet that is read for a book, told in parts: its figures, and the numbers of its cells, which are in an array over what stood there before
pub record Numbers (press : ℕ) (book : List ℕ) (c : Colours) (sheet before : List ℕ) (r : SheetFigures) (numbers : List ℕ) : Type 0 where
  pub figures : r ≡ sheet_figures (sheet_of press sheet)
  pub cells : numbers ≡ numbers_for book c sheet (over before (sheet_of press sheet)).sheet
