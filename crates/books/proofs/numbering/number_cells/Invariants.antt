-- At each turn of the loop the cells so far have their numbers, and the others are as they were.
use Prim.Native.Nat.{ℕ}
use mathlib.Core.Path.{◌≡◌}
use lib.ListN.{get_or}
use Rattle.books.specs.inner.Key.{numbered}
use Rattle.books.proofs.numbering.number_cells.Given as goal

abbrev pub invariant-loop-cell : goal.invariant-loop-cell
invariant-loop-cell l = l.numbered ≡ numbered (λ (v : ℕ). get_or l.key v 0) l.cell-index l.initial.numbered
