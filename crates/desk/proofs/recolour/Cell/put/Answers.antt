-- The cells are the last bytes, and the cell is one of them.
use mathlib.Core.Path.{refl}
use Prim.Native.Nat.{◌+◌, ◌*◌, ◌<◌}
use native.Mathlib.Omega.{arith}
use Rattle.pieces.proofs.CellsFirst.{cell-before}
use Rattle.desk.proofs.recolour.Cell.put.Goals as goal
use Rattle.desk.proofs.recolour.Cell.put.Goals.{Start}

one-of-them : (c : Start) → let a = c.args in a.self.row * a.size.cols + a.self.column < a.size.rows * a.size.cols
one-of-them c = cell-before _ _ _ _ c.requires.row_on c.requires.column_on

pub overflow_mul-at : goal.overflow_mul-at
overflow_mul-at c = omega (arith, c.requires.cells, one-of-them (goal.at.overflow_mul-at c).Start)

pub overflow_add-at : goal.overflow_add-at
overflow_add-at c = omega (arith, c.requires.cells, one-of-them (goal.at.overflow_add-at c).Start)

pub overflow_add-place : goal.overflow_add-place
overflow_add-place c = omega (arith, c.requires.cells, one-of-them (goal.at.overflow_add-place c).Start)

pub bounds-sheet-place : goal.bounds-sheet-place
bounds-sheet-place c = omega (arith, c.requires.cells, one-of-them (goal.at.bounds-sheet-place c).Start)

pub returns : goal.returns
returns c = (refl, refl)
