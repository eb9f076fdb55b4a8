-- The cells that are left, added from here, give what all give from the start.
use mathlib.Core.Path.{sym, ◌∙◌}
use Prim.Native.Nat.{◌+◌, ◌<◌}
use native.Mathlib.Omega.{arith}
use lib.ListN.{length, get_or}
use Rattle.names.proofs.Count.{left-suc}
use Rattle.runs.specs.inner.Adding.{cells_from, one_more}
use Rattle.runs.proofs.AddingCells.{spare-less, coloured-next, coloured-none}
use Rattle.runs.proofs.counting.add_cells.Goals as goal

pub loop-cell-preserved : goal.loop-cell-preserved
unfolding one_more
loop-cell-preserved c =
    let cells = c.args.cells.now in
    let i = c.loop-cell.cell-index in
    let inv = c.loop-cell.invariant in
    let less : i < length cells = omega arith in
    let stands : cells_from + get_or cells i 0 < length c.loop-cell.figures = omega (arith, c.requires.low i less, inv.spare.long) in
    record {
      spare = spare-less _ c.loop-cell.figures (cells_from + get_or cells i 0) stands (rw (left-suc _ _ less) at inv.spare);
      rest = sym (coloured-next c.loop-cell.figures cells i less) ∙ inv.rest;
    }

pub returns : goal.returns
returns c = sym (coloured-none c.loop-cell.figures c.args.cells.now c.loop-cell.cell-index (omega arith)) ∙ c.loop-cell.invariant.rest
