-- The pieces with the cell are passed one after the other, from the cell on: what is left, done from here, is the whole.
use mathlib.Core.Path.{◌≡◌}
use mathlib.Core.List.{List}
use Prim.Native.Nat.{ℕ, ◌-◌, ◌≤◌, ◌<◌}
use lib.ListN.{length}
use Rattle.pieces.specs.Pieces.{Inside, total, slot_of}
use Rattle.pieces.specs.Firing.{joins_fired}
use Rattle.pieces.specs.Refill.{HasCell, refilled, due_by}
use Rattle.pieces.specs.declared.piece.Piece.{Piece}
use Rattle.pieces.proofs.Passing.{left_from}
use Rattle.pieces.proofs.masks.Masks.refill_cells.Given as goal

-- p is the piece that is due, or one taller than the sheet where none is
pub record Refilling (due : List ℕ → Piece → ℕ) (m n row column : ℕ) (row_on : row < m) (column_on : column < n) (before t : List ℕ) (p : Piece) : Type 0 where
  pub on : p.height ≤ m → Inside m n p × HasCell row column p
  pub ended : m < p.height → total m n ≤ slot_of m n p
  pub sized : length t ≡ length before
  pub left : left_from due m n row column row_on column_on (slot_of m n p) t ≡ refilled due m n row column before

abbrev pub invariant-loop-p : goal.invariant-loop-p
invariant-loop-p l =
    (row_on : l.row < l.size.rows) × (column_on : l.column < l.size.cols)
    × Refilling (due_by (joins_fired l.self.masks.now l.self.joins) l.paint l.size.rows l.size.cols) l.size.rows l.size.cols l.row l.column row_on column_on l.initial.work l.work l.p

abbrev pub decreases-loop-p : goal.decreases-loop-p
decreases-loop-p l = total l.size.rows l.size.cols - slot_of l.size.rows l.size.cols l.p
