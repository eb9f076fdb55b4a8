-- At each turn of the loop the cells that are left, read from here on, give what reading them all gives.
use Prim.Native.Nat.{◌-◌}
use mathlib.Core.Path.{◌≡◌}
use mathlib.Core.List.{◌++◌}
use lib.ListN.{drop}
use Rattle.books.specs.Cells.{cells_onward}
use Rattle.books.proofs.cells.read_cells.Given as goal

abbrev pub invariant-loop-cell : goal.invariant-loop-cell
invariant-loop-cell l = record {
  left : cells_onward l.fn.reader.bytes.now l.colours (l.own ++ drop l.count l.fn.cells) l.cell-index l.reader.at (l.count - l.cell-index)
      ≡ cells_onward l.fn.reader.bytes.now l.colours l.fn.cells 0 l.fn.reader.at l.count;
  same : l.reader.bytes ≡ l.fn.reader.bytes;
}
