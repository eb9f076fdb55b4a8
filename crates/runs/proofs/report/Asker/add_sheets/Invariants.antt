-- At each place the figures are those of the sheets before it.
use Prim.Native.Nat.{◌-◌}
use lib.ListN.{length}
use Rattle.runs.proofs.SheetsSoFar.{SoFar}
use Rattle.runs.proofs.report.Asker.add_sheets.Given as goal

abbrev pub invariant-loop-at : goal.invariant-loop-at
invariant-loop-at l = SoFar l.self.press l.self.book.now l.run l.initial.work l.initial.figures l.work l.figures l.at

abbrev pub decreases-loop-at : goal.decreases-loop-at
decreases-loop-at l = length l.run - l.at
