-- A cell of the sheet stands in the array that was read, and any other row or column shows nothing.
use Prim.Native.Nat.{◌+◌, ◌*◌, ◌<◌}
use mathlib.Core.Path.{sym, ap}
use mathlib.Core.List.{[]}
use mathlib.Core.Logic.{inl, inr}
use native.Mathlib.Omega.{arith}
use Rattle.books.specs.SheetRead.{SheetRead}
use Rattle.books.specs.Size.{room}
use Rattle.books.proofs.CellsOver.{sheet-cells}
use Rattle.lookups.proofs.SheetCells.{cell_below, cell-read, no-cell-exactly}
use Rattle.lookups.proofs.sheet.dv_cell.Goals as goal
use Rattle.lookups.proofs.sheet.dv_cell.Goals.{Then-column-size, else-row-size-via-then-row-size+else-column-size, else-row-size-via-else-row-size}

within : (c : Then-column-size) → let a = c.args in let z = c.in-Ok.g.size in
    (a.row * z.cols + a.column < room) × (a.column * z.rows + a.row < room)
within c =
    let a = c.args in
    let few = rw (← c.in-Ok.ensures) at (sheet-cells [] a.press a.sheet.now).area_few in
    let row = c.if-row-size.true in
    let column = c.if-column-size.true in
    (omega (arith, few, cell_below row column), omega (arith, few, cell_below column row))

pub returns-in_default : goal.returns-in_default
returns-in_default c =
    let a = c.args in
    let rows = ap (λ (r : SheetRead). r.sheet.size.rows) c.in_default.ensures in
    sym ((no-cell-exactly a.press a.sheet.now a.row a.column).1 (inr (inl (omega (arith, rows)))))

pub overflow_mul-result : goal.overflow_mul-result
overflow_mul-result c = omega (arith, within (goal.at.overflow_mul-result c).Then-column-size)

pub overflow_add-result : goal.overflow_add-result
overflow_add-result c = omega (arith, within (goal.at.overflow_add-result c).Then-column-size)

pub bounds-g-row : goal.bounds-g-row
bounds-g-row c = omega (arith, within (goal.at.bounds-g-row c).Then-column-size)

pub returns-then-column-size : goal.returns-then-column-size
returns-then-column-size c =
    let a = c.args in
    let read = ap (λ (r : SheetRead). r.sheet) c.in-Ok.ensures in
    rw read (cell-read a.press a.sheet.now a.row a.column (rw read at c.if-row-size.true) (rw read at c.if-column-size.true))

pub returns-else-row-size : goal.returns-else-row-size
returns-else-row-size c =
    let a = c.args in
    let none = no-cell-exactly a.press a.sheet.now a.row a.column in
    let read = ap (λ (r : SheetRead). r.sheet) c.in-Ok.ensures in
    elim c.else-row-size.branch [
      | else-row-size-via-then-row-size+else-column-size w ↦ sym (none.1 (inr (inr (rw read at w.if-column-size.false))))
      | else-row-size-via-else-row-size w ↦ sym (none.1 (inr (inl (rw read at w.if-row-size.false))))
    ]
