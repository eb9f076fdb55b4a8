-- What callers use of the cells of a sheet: each stands at its place, whatever stood in the array; and in a fresh array there is 0 past the last, as in the
-- sheet itself.
use Prim.Native.Nat.{ℕ, ◌*◌, ◌<◌, ◌≤◌}
use mathlib.Core.Path.{◌≡◌, refl, sym, ◌∙◌, ap}
use mathlib.Core.List.{List, ◌++◌}
use mathlib.Core.Logic.{⊎_elim}
use native.Mathlib.Nat.{mul-pos}
use native.Mathlib.Omega.{arith}
use borrow.Author.Tests.{eqb-true, eqb-false, ne_eqb}
use lib.Dec.{eqb}
use lib.ListN.{length, get_or, take, drop, take-append-drop, length-append, get_or-append}
use lib.Seq.{length-take-le, get_or-take}
use Rattle.names.specs.Spelling.{most_colours}
use Rattle.names.proofs.Tests.{true-or-false}
use Rattle.books.specs.Cells.{no_cells}
use Rattle.books.specs.Sheet.{sheet_of, cells_over, over}
use Rattle.books.specs.Size.{room}
use Rattle.books.specs.declared.sheet.Sheet.{Sheet}
use Rattle.books.proofs.ReadingCells.{no_cells_lem}
use Rattle.books.proofs.ReadingSheets.{SheetLies, sheet-lies, sheet-refused}

-- the cells of a sheet fit their room, and their numbers its colours
pub record SheetFits (g : Sheet) : Type 0 where
  pub colours_few : g.colours.count ≤ most_colours
  pub area_few : g.size.rows * g.size.cols ≤ room
  pub cells_all : g.size.rows * g.size.cols ≤ length g.cells
  pub cells_fit : (i : ℕ) → i < g.size.rows * g.size.cols → get_or g.cells i 0 < g.colours.count

-- the cells of an accepted sheet stand first, whatever stood in the array
module _ (before : List ℕ) (press : ℕ) (s : List ℕ) (z : (sheet_of press s).fault.number ≡ 0) where
  abbrev g : Sheet
  g = (sheet_of press s).sheet

  abbrev n : ℕ
  n = g.size.rows * g.size.cols

  lies : SheetLies press s (sheet_of press s)
  lies = sheet-lies press s z

  first-long : length (take n g.cells) ≡ n
  first-long = length-take-le n g.cells (omega (arith, lies.area_few, lies.cells_all))

  pub over-is : cells_over before g ≡ take n g.cells ++ drop n before
  over-is = let some : (n ≡ 0 → ⊥) = λ e. absurd (omega (arith, mul-pos lies.within.rows_some lies.within.cols_some)) in rw (ne_eqb n 0 some)

  pub over-long : n ≤ length (cells_over before g)
  over-long = rw (over-is, length-append) (omega (arith, first-long))

  pub over-at : (i : ℕ) → i < n → get_or (cells_over before g) i 0 ≡ get_or g.cells i 0
  over-at i h =
      ap (λ (l : List ℕ). get_or l i 0) over-is
      ∙ get_or-append (take n g.cells) (drop n before) 0 i (omega (arith, first-long)) ∙ get_or-take n g.cells i 0 h

fresh_cells : (press : ℕ) (s : List ℕ) → cells_over no_cells (sheet_of press s).sheet ≡ (sheet_of press s).sheet.cells
fresh_cells press s =
    ⊎_elim
    (λ t.
    let z = eqb-true (sheet_of press s).fault.number 0 t in
    let l = sheet-lies press s z in
    let g = (sheet_of press s).sheet in
    let n = g.size.rows * g.size.cols in
    over-is no_cells press s z ∙ ap (λ (x : List ℕ). take n g.cells ++ x) (sym l.cells_end) ∙ take-append-drop n g.cells)
    (λ t. rw (sheet-refused press s (eqb-false (sheet_of press s).fault.number 0 t)).none refl)
    (true-or-false (eqb (sheet_of press s).fault.number 0))

-- a sheet that is read into a fresh array is the sheet, with 0 past its cells
pub over-fresh : (press : ℕ) (s : List ℕ) → over no_cells (sheet_of press s) ≡ sheet_of press s
over-fresh press s =
    let r = sheet_of press s in
    let g = r.sheet in
    ap (λ (l : List ℕ).
    record { fault = r.fault; sheet = record { colours = g.colours; ticket = g.ticket; most = g.most; size = g.size; cells = l } })
    (fresh_cells press s)

pub sheet-cells : (before : List ℕ) (press : ℕ) (s : List ℕ) → SheetFits (over before (sheet_of press s)).sheet
sheet-cells before press s =
    ⊎_elim
    (λ t.
    let z = eqb-true (sheet_of press s).fault.number 0 t in
    let l = sheet-lies press s z in
    record {
      colours_few = l.places.few;
      area_few = l.area_few;
      cells_all = over-long before press s z;
      cells_fit = λ i h. rw (over-at before press s z i h) (l.cells_fit i h);
    })
    (λ t. rw (sheet-refused press s (eqb-false (sheet_of press s).fault.number 0 t)).none
    (record { colours_few = omega arith; area_few = omega arith; cells_all = omega arith; cells_fit = λ i h. absurd (omega arith) }))
    (true-or-false (eqb (sheet_of press s).fault.number 0))

pub cells-room : (press : ℕ) (s : List ℕ) → length (sheet_of press s).sheet.cells ≡ room
cells-room press s =
    ⊎_elim
    (λ t. (sheet-lies press s (eqb-true (sheet_of press s).fault.number 0 t)).cells_all)
    (λ t. rw (sheet-refused press s (eqb-false (sheet_of press s).fault.number 0 t)).none no_cells_lem)
    (true-or-false (eqb (sheet_of press s).fault.number 0))
