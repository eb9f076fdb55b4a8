-- The table filled by masks that serve an accepted book's rules, over the numbers that a sheet's colours have in the book, is that of the book and the sheet.
use mathlib.Core.Path.{◌≡◌, refl, sym, ap, ap₂, ◌∙◌}
use mathlib.Core.List.{List, []}
use Prim.Native.Nat.{ℕ, ◌+◌, ◌*◌, ◌≤◌, ◌<◌}
use native.Mathlib.Omega.{arith}
use lib.ListN.{length, get_or, take}
use lib.Seq.{get_or-take}
use Rattle.names.specs.Colours.{name_in, names_in, find_name}
use Rattle.names.proofs.ReadingColours.{names-count, name-at}
use Rattle.books.specs.Contents.{Contents}
use Rattle.books.specs.Grid.{GridKeeps, picture}
use Rattle.books.specs.ContentsIn.{contents_in, grid_in}
use Rattle.books.specs.Keeps.{Keeps}
use Rattle.books.specs.Numbering.{number_of}
use Rattle.books.specs.Picture.{Picture}
use Rattle.books.specs.declared.family.Family.{Family}
use Rattle.books.specs.declared.sheet.Sheet.{Sheet}
use Rattle.books.specs.Size.{Within}
use Rattle.pieces.specs.Most.{most}
use Rattle.books.proofs.Presses.{greatest-few}
use Rattle.books.proofs.SizesWithin.{within_more}
use Rattle.pieces.specs.Pieces.{piece, total}
use Rattle.pieces.specs.Masks.{painters_from}
use Rattle.pieces.specs.Filling.{filled_by}
use Rattle.pieces.specs.Rights.{Serves}
use Rattle.pieces.specs.Table.{cut, entry}
use Rattle.pieces.specs.Derivation.{filled}
use Rattle.pieces.specs.inner.ForTable.{Paintable}
use Rattle.pieces.specs.declared.masks.Joins.{Joins}
use Rattle.pieces.proofs.CellEntries.{found-low, painters-entry}
use Rattle.pieces.proofs.CellsFirst.{cell-before}
use Rattle.pieces.proofs.FilledTable.{filled-table}

-- what reading gives of a book and of a sheet
pub record AsRead (press : ℕ) (book : List ℕ) (f : Family) (bytes : List ℕ) (g : Sheet) : Type 0 where
  pub book_keeps : Keeps (contents_in book f)
  pub sheet_keeps : GridKeeps press (grid_in bytes g)

-- the number that the colour of each cell has in the book
pub record Numbered (book : List ℕ) (f : Family) (bytes : List ℕ) (g : Sheet) (cells : List ℕ) : Type 0 where
  pub all : g.size.rows * g.size.cols ≤ length cells
  pub each : (i : ℕ) → i < g.size.rows * g.size.cols → get_or cells i 0 ≡ number_of book f.colours bytes g.colours (get_or g.cells i 0)

module _ {press : ℕ} {book : List ℕ} {f : Family} {bytes : List ℕ} {g : Sheet} (read : AsRead press book f bytes g) where
  pub room : Within most g.size.rows g.size.cols
  room = within_more (greatest-few press) read.sheet_keeps.within

  pub book-colours : f.colours.count ≤ 64
  book-colours = omega (arith, read.book_keeps.colours_ok.few, names-count book f.colours)

  cell_at : (i : ℕ) → i < g.size.rows * g.size.cols → get_or (take (g.size.rows * g.size.cols) g.cells) i 0 ≡ get_or g.cells i 0
  cell_at i h = get_or-take (g.size.rows * g.size.cols) g.cells i 0 h

  cell-low : (i : ℕ) → i < g.size.rows * g.size.cols → get_or g.cells i 0 < g.colours.count
  cell-low i h =
      omega (arith, cell_at i h, names-count bytes g.colours, read.sheet_keeps.cells_fit i (omega (arith, read.sheet_keeps.cells_all)))

  abbrev b : Contents
  b = contents_in book f

  abbrev p : Picture
  p = picture (grid_in bytes g)

  -- The name of a cell is that of its colour.
  pub cell-name : (r c : ℕ) → r < g.size.rows → c < g.size.cols → p.cell r c ≡ name_in bytes g.colours (get_or g.cells (r * g.size.cols + c) 0)
  cell-name r c hr hc =
      let i = cell-before g.size.rows g.size.cols r c hr hc in
      ap (λ (k : ℕ). get_or (names_in bytes g.colours) k []) (cell_at (r * g.size.cols + c) i) ∙ name-at bytes g.colours _ (cell-low (r * g.size.cols + c) i)

  module _ (cells : List ℕ) (numbered : Numbered book f bytes g cells) where
    pub paintable : Paintable cells (g.size.rows * g.size.cols)
    paintable = record { all = numbered.all; low = λ i h. omega (arith, numbered.each i h, found-low book f read.book_keeps (name_in bytes g.colours (get_or g.cells i 0))) }

    module _ (masks : List ℕ) (j : Joins) (serves : Serves b.rules masks j) where
      -- The painters of a cell's number are the motifs that derive the cell.
      pub painted-entry : (r c : ℕ) → r < g.size.rows → c < g.size.cols → get_or masks (painters_from + get_or cells (r * g.size.cols + c) 0) 0 ≡ entry b (cut p (piece 1 1 r c))
      painted-entry r c hr hc =
          ap (λ (k : ℕ). get_or masks (painters_from + k) 0)
          (numbered.each (r * g.size.cols + c) (cell-before g.size.rows g.size.cols r c hr hc)
          ∙ ap (find_name book f.colours) (sym (ap₂ p.cell (none r) (none c) ∙ cell-name r c hr hc)))
          ∙ painters-entry book f read.book_keeps masks j serves (cut p (piece 1 1 r c)) refl refl
        where
          none : (x : ℕ) → x + 0 ≡ x
          none x = omega arith

      pub whole-table : (before : List ℕ) → total g.size.rows g.size.cols ≤ length before → filled_by masks j cells g.size.rows g.size.cols before ≡ filled b p before
      unfolding filled_by
      whole-table before enough =
          filled-table b read.book_keeps.sound p _ serves.fires before enough (read.sheet_keeps.within.rows_some, read.sheet_keeps.within.cols_some) masks cells
          numbered.all painted-entry
