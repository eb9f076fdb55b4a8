-- The cells that are left, added from here, give what all give from the start.
use mathlib.Core.Path.{◌≡◌}
use Prim.Native.Nat.{◌-◌}
use lib.ListN.{length, drop}
use Rattle.runs.specs.inner.Adding.{coloured, Spare}
use Rattle.runs.proofs.counting.add_cells.Given as goal

abbrev pub invariant-loop-cell : goal.invariant-loop-cell
invariant-loop-cell l =
    record {
      spare : Spare (length l.cells - l.cell-index) l.figures;
      rest : coloured l.figures (drop l.cell-index l.cells) ≡ coloured l.initial.figures l.cells;
    }
