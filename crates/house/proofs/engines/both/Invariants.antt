-- What was counted so far is no more than the sheets that were asked about.
use Rattle.std.proofs.Common.{◌≤◌}
use Rattle.house.proofs.engines.both.Given as goal

abbrev pub invariant-loop-bits : goal.invariant-loop-bits
invariant-loop-bits g l = (l.accepted ≤ l.bits) × (l.same ≤ l.bits)
