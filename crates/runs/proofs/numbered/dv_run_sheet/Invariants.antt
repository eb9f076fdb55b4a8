-- At each place the sheets before it are behind, and the one that is looked for is the first with none before it.
use Prim.Native.Nat.{◌-◌}
use lib.ListN.{length}
use Rattle.runs.proofs.LookingUp.{Passed}
use Rattle.runs.proofs.numbered.dv_run_sheet.Given as goal

abbrev pub invariant-loop-at : goal.invariant-loop-at
invariant-loop-at l = Passed l.run l.number l.at l.before

abbrev pub decreases-loop-at : goal.decreases-loop-at
decreases-loop-at l = length l.run - l.at
