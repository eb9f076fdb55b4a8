-- What reading a sheet of a press finds: a colour list, the job ticket, rows and columns, one colour number per cell, and nothing after them.
use Rattle.std.specs.Prelude.{ℕ, ◌*◌, ◌≡◌, List, ◌++◌, eqb, take, drop}
use Rattle.names.specs.Pick.{pick, fault}
use Rattle.names.specs.Onward.{onward, ending}
use Rattle.names.specs.Number.{number_at}
use Rattle.names.specs.Colours.{no_colours, colours_of, after_colours}
use Rattle.names.specs.Fault.{Fault}
use Rattle.names.specs.declared.colours.Colours.{Colours}
use Rattle.books.specs.Press.{greatest_of}
use Rattle.books.specs.Size.{size_by, size_at, after_size}
use Rattle.books.specs.Cells.{CellsRead, no_cells, cells_at, after_cells}
use Rattle.books.specs.declared.size.Size.{Size}
use Rattle.books.specs.declared.sheet.Sheet.{Sheet}
use Rattle.books.specs.SheetRead.{SheetFigures, SheetRead}

-- no sheet, and a refused one
abbrev pub no_sheet : Sheet
no_sheet = record { colours = no_colours; ticket = 0; most = 0; size = size_by 0 0; cells = no_cells }

abbrev pub refused_sheet : Fault → SheetRead
refused_sheet f = record { fault = f; sheet = no_sheet }

-- the sheet ends with its cells; its press has at most so many rows and columns
unfoldable pub filled_at : List ℕ → ℕ → Colours → ℕ → Size → CellsRead → SheetRead
filled_at s most c ticket size r =
    after_cells refused_sheet r (λ cells next.
    ending refused_sheet s next (record { fault = fault 0 0; sheet = record { colours = c; ticket = ticket; most = most; size = size; cells = cells } }))

-- colours, then the ticket, which may be any number, then rows and columns, as many as the press has at most, then a cell for each of both
unfoldable pub sheet_of : ℕ → List ℕ → SheetRead
sheet_of press s =
    after_colours refused_sheet (colours_of s) (λ c at.
    onward refused_sheet (number_at s at) (λ ticket then.
    after_size refused_sheet (size_at s then (greatest_of press)) (λ size next.
    filled_at s (greatest_of press) c ticket size (cells_at s c.count next (size.rows * size.cols)))))

-- the cells of a sheet over what stood in an array: past them it is as it was; a refused sheet has none, and leaves 0
abbrev pub cells_over : List ℕ → Sheet → List ℕ
cells_over before g =
    let n = g.size.rows * g.size.cols in
    pick (eqb n 0) no_cells (take n g.cells ++ drop n before)

-- a sheet that is read into such an array
abbrev pub over : List ℕ → SheetRead → SheetRead
over before g =
    let s = g.sheet in
    record { fault = g.fault; sheet = record { colours = s.colours; ticket = s.ticket; most = s.most; size = s.size; cells = cells_over before s } }

-- what is told of a sheet that was read, beside its names and cells
abbrev pub sheet_figures : SheetRead → SheetFigures
sheet_figures g = record { fault = g.fault; colours = g.sheet.colours.count; ticket = g.sheet.ticket; most = g.sheet.most; size = g.sheet.size }

-- a sheet that was read, told in parts: its figures, and its colours' places and lengths and its cells, which are in three arrays
pub record SheetInto (g : SheetRead) (r : SheetFigures) (places sizes numbers : List ℕ) : Type 0 where
  pub figures : r ≡ sheet_figures g
  pub starts : places ≡ g.sheet.colours.starts
  pub lens : sizes ≡ g.sheet.colours.lens
  pub cells : numbers ≡ g.sheet.cells
