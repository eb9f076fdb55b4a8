-- The pieces with the cell are passed one after the other, from the cell on: what is left, done from here, is the whole.
use mathlib.Core.Path.{refl, sym, ◌∙◌}
use native.Mathlib.Omega.{arith}
use lib.ListN.{length-set}
use Rattle.pieces.specs.Pieces.{Inside, slot_of}
use Rattle.pieces.specs.Firing.{joins_fired}
use Rattle.pieces.specs.Refill.{HasCell, has_cell?, due_by}
use Rattle.pieces.proofs.Passing.{cell-on, cell-has, passing-starts, passing-goes}
use Rattle.pieces.proofs.Refilled.{all-refilled}
use Rattle.pieces.proofs.masks.Masks.refill_cells.Goals as goal
use Rattle.pieces.proofs.masks.Masks.refill_cells.Goals.{In-loop-p}

due-on : (c : In-loop-p) → let z = c.args.size in
    Inside z.rows z.cols c.loop-p.p × HasCell c.args.row c.args.column c.loop-p.p
due-on c = c.loop-p.invariant.2.on c.loop-p-test.true

pub loop-p-init : goal.loop-p-init
loop-p-init c =
    let a = c.args in
    let row_on = c.requires.row_on in
    let column_on = c.requires.column_on in
    rw c.cell-p.ensures (
      row_on,
      column_on,
      record {
        on = λ _. (
          cell-on (λ _ _. 0) a.size.rows a.size.cols a.row a.column row_on column_on,
          cell-has (λ _ _. 0) a.size.rows a.size.cols a.row a.column row_on column_on,
        );
        ended = λ h. absurd (omega arith);
        sized = refl;
        left = passing-starts _ a.size.rows a.size.cols a.row a.column row_on column_on _;
      },
    )

pub loop-p-preserved : goal.loop-p-preserved
loop-p-preserved c =
    let a = c.args in
    let (row_on, column_on, f) = c.loop-p.invariant in
    let next = c.next_with-p.ensures in
    let due = due_by (joins_fired a.self.now.masks.now a.self.now.joins) a.paint a.size.rows a.size.cols in
    rw (c.slot-k.ensures.0, c.due-e.ensures) (
      row_on,
      column_on,
      record {
        on = next.still;
        ended = next.ended;
        sized = length-set c.loop-p.work (slot_of a.size.rows a.size.cols c.loop-p.p) (due c.loop-p.work c.loop-p.p) ∙ f.sized;
        left = sym (passing-goes due a.size.rows a.size.cols a.row a.column row_on column_on _ c.loop-p.p _ (due-on (goal.at.loop-p-preserved c).In-loop-p).0 (due-on (goal.at.loop-p-preserved c).In-loop-p).1 next) ∙ f.left;
      },
    )

pub returns : goal.returns
returns c =
    let a = c.args in
    let f = c.loop-p.invariant.2 in
    sym (all-refilled (due_by (joins_fired a.self.now.masks.now a.self.now.joins) a.paint a.size.rows a.size.cols) a.size.rows a.size.cols (has_cell? a.row a.column) _ _
    (f.ended c.loop-p-test.false))
    ∙ f.left
