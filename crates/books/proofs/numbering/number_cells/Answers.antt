-- At each turn of the loop the cells so far have their numbers, and the others are as they were.
use Prim.Native.Nat.{ℕ, ◌<◌}
use lib.ListN.{length, take, get_or}
use Rattle.books.proofs.NumberedCells.{not_yet, one-numbered}
use Rattle.books.proofs.numbering.number_cells.Goals as goal

pub loop-cell-preserved : goal.loop-cell-preserved
loop-cell-preserved c =
    let key : ℕ → ℕ = λ v. get_or c.args.key.now v 0 in
    let some = take c.args.count c.args.cells.now in
    let h : c.loop-cell.cell-index < length some = c.loop-cell-test.true in
    simp (c.from.ensures, c.loop-cell.invariant, not_yet key some c.loop-cell.cell-index h) (one-numbered key some some c.loop-cell.cell-index h h)
