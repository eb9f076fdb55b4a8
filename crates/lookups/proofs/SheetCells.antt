-- What is looked up of a cell, from the bytes of the lent sheet: its colour's number, which is below the count of the sheet's colours, so that division takes
-- the number apart again; and 0 exactly where there is no such cell, since 1 stands above the colour.
use Prim.Native.Nat.{ℕ, ◌+◌, ◌*◌, ◌/◌, ◌%◌, ◌^◌, ◌≤◌, ◌<◌}
use mathlib.Core.Path.{◌≡◌, refl, ap}
use mathlib.Core.List.{List, []}
use mathlib.Core.Logic.{◌↔◌, ◌⊎◌, inl, inr, ⊎_elim}
use native.Mathlib.Nat.{mul-le-mul}
use native.Mathlib.Omega.{arith}
use borrow.Author.Tests.{lt-ltb, le-ltb}
use lib.ListN.{length, get_or}
use lib.Seq.{get_or-take}
use Rattle.names.proofs.ReadingColours.{names-count}
use Rattle.names.proofs.Tests.{lt-or-le}
use Rattle.books.specs.ContentsIn.{grid_in}
use Rattle.books.specs.Grid.{Grid}
use Rattle.books.specs.Lent.{picture_of}
use Rattle.books.specs.Press.{IsPress}
use Rattle.books.specs.Sheet.{sheet_of}
use Rattle.lookups.specs.Sheet.{cell_with, cell_shown}
use Rattle.books.proofs.ReadingSheets.{sheet-lies, sheet-refused, sheet-press}

-- ── The place of a cell ──

-- row by row, every cell stands below rows times columns
pub cell_below : {rows cols row column : ℕ} → row < rows → column < cols → row * cols + column < rows * cols
cell_below {rows} {cols} {row} {column} h g =
    let below : (row + 1) * cols ≤ rows * cols = mul-le-mul (omega arith) (omega arith) in
    omega arith

-- ── A cell ──

module _ (g : Grid) (row column : ℕ) where
  pub cell-there : row < g.rows → column < g.cols → cell_with g row column ≡ get_or g.cells (row * g.cols + column) 0 + 2 ^ 32
  unfolding cell_with
  cell-there h k = rw (lt-ltb row g.rows h, lt-ltb column g.cols k) refl

  no_row : g.rows ≤ row → cell_with g row column ≡ 0
  unfolding cell_with
  no_row h = rw (le-ltb row g.rows h) refl

  no-column : row < g.rows → g.cols ≤ column → cell_with g row column ≡ 0
  unfolding cell_with
  no-column h k = rw (lt-ltb row g.rows h, le-ltb column g.cols k) refl

module _ (press : ℕ) (s : List ℕ) (row column : ℕ) where
  -- the contents of the sheet
  abbrev grid : Grid
  grid = grid_in s (sheet_of press s).sheet

  -- the sheet is refused, or it has no such row or no such column
  abbrev pub NoCell : Type 0
  NoCell = ((sheet_of press s).fault.number ≡ 0 → ⊥) ⊎ ((grid.rows ≤ row) ⊎ (grid.cols ≤ column))

  -- what dv_cell answers of a cell: its colour's number, whose name is the one that the sheet shows there
  pub record CellApart (n : ℕ) : Type 0 where
    pub colour_is : n % 2 ^ 32 ≡ get_or grid.cells (row * grid.cols + column) 0
    pub colour_fits : n % 2 ^ 32 < length grid.colours
    pub name_is : get_or grid.colours (n % 2 ^ 32) [] ≡ (picture_of press s).cell row column
    pub one_above : n / 2 ^ 32 ≡ 1

  -- by the cells that were read, of which the first rows times columns stand
  pub cell-read : row < grid.rows → column < grid.cols → get_or (sheet_of press s).sheet.cells (row * grid.cols + column) 0 + 2 ^ 32 ≡ cell_shown press s row column
  cell-read h k =
      let c = (sheet_of press s).sheet in
      rw (cell-there grid row column h k, get_or-take (c.size.rows * c.size.cols) c.cells (row * c.size.cols + column) 0 (cell_below h k))

  pub cell_shown_lem : (sheet_of press s).fault.number ≡ 0 → row < grid.rows → column < grid.cols → CellApart (cell_shown press s row column)
  cell_shown_lem z h k =
      let c = (sheet_of press s).sheet in
      let at = row * c.size.cols + column in
      let lies = sheet-lies press s z in
      let there = cell-there grid row column h k in
      let stands = get_or-take (c.size.rows * c.size.cols) c.cells at 0 (cell_below h k) in
      let fits : get_or grid.cells at 0 < length grid.colours = omega (arith, stands, names-count s c.colours, lies.cells_fit at (cell_below h k)) in
      let small : get_or grid.cells at 0 < 2 ^ 32 = omega (arith, fits, names-count s c.colours, lies.places.few) in
      let colour : cell_shown press s row column % 2 ^ 32 ≡ get_or grid.cells at 0 = omega (arith, there) in
      record {
        colour_is = colour;
        colour_fits = omega (arith, colour, fits);
        name_is = ap (λ (n : ℕ). get_or grid.colours n []) colour;
        one_above = omega (arith, there);
      }

  -- it is 0 exactly where there is no such cell
  pub no-cell-exactly : (cell_shown press s row column ≡ 0) ↔ NoCell
  no-cell-exactly = (
    λ e. ⊎_elim
        (λ (h : row < grid.rows). ⊎_elim
        (λ (k : column < grid.cols). absurd (omega (arith, cell-there grid row column h k)))
        (λ k. inr (inr k)) (lt-or-le column grid.cols))
        (λ h. inr (inl h)) (lt-or-le row grid.rows),
    ⊎_elim
        (λ d. no_row grid row column (rw (sheet-refused press s d).none (omega arith)))
        (⊎_elim (no_row grid row column)
        (λ k. ⊎_elim (λ h. no-column grid row column h k) (no_row grid row column) (lt-or-le row grid.rows))),
  )

  -- as of every sheet where there is no such press
  pub no-press-no-cell : (IsPress press → ⊥) → cell_shown press s row column ≡ 0
  no-press-no-cell n = no-cell-exactly.1 (inl (λ z. n (sheet-press press s z)))
