-- The cell has a number, since the sheet is accepted, and every number has its painters.
use mathlib.Core.Path.{sym, ap, subst}
use mathlib.Core.List.{List}
use Prim.Native.Nat.{ℕ, ◌+◌, ◌≤◌}
use native.Mathlib.Omega.{arith}
use lib.ListN.{get_or, replicate}
use Rattle.names.specs.Spelling.{most_colours}
use Rattle.books.specs.Size.{room}
use Rattle.books.proofs.NumberedCells.{numbers-fresh, numbers-few}
use Rattle.books.proofs.ReadingSheets.{sheet-lies}
use Rattle.pieces.specs.Masks.{painters_from}
use Rattle.desk.specs.inner.ForCell.{painters_of}
use Rattle.desk.proofs.recolour.painters.Goals as goal
use Rattle.desk.proofs.recolour.painters.Goals.{After-number_sheet}

few : (c : After-number_sheet) → get_or ((c.number_sheet.new.cells)) c.args.at 0 ≤ most_colours
few c =
    subst (λ (l : List ℕ). get_or l c.args.at 0 ≤ most_colours) (sym c.number_sheet.ensures.cells)
    (numbers-few c.args.press c.args.book.now c.args.colours.now c.args.sheet.now (replicate room 0) c.args.at c.requires.cell)

pub bounds-cells-at : goal.bounds-cells-at
bounds-cells-at c = omega (arith, c.requires.cell, (sheet-lies c.args.press c.args.sheet.now c.requires.accepted).area_few)

pub overflow_cast-result : goal.overflow_cast-result
overflow_cast-result c = omega (arith, few (goal.at.overflow_cast-result c).After-number_sheet)

pub overflow_add-result : goal.overflow_add-result
overflow_add-result c = omega (arith, few (goal.at.overflow_add-result c).After-number_sheet)

pub offset_bounds-masks-cells : goal.offset_bounds-masks-cells
offset_bounds-masks-cells c = omega (arith, few (goal.at.offset_bounds-masks-cells c).After-number_sheet)

pub bounds-masks-cells : goal.bounds-masks-cells
bounds-masks-cells c = omega (arith, few (goal.at.bounds-masks-cells c).After-number_sheet, c.requires.fit)

pub returns : goal.returns
unfolding painters_of
returns c =
    let a = c.args in
    ap (λ (l : List ℕ). get_or a.masks.now (painters_from + get_or l a.at 0) 0)
    (numbers-fresh a.press a.book.now a.colours.now a.sheet.now c.number_sheet.ensures)
