-- After i turns the joins before the i-th are gathered, by i trials.
use mathlib.Core.Path.{◌≡◌}
use Prim.Native.Nat.{◌-◌, ◌≤◌}
use Rattle.pieces.specs.inner.Along.{all_fired}
use Rattle.pieces.proofs.masks.Rows.join.Given as goal

abbrev pub invariant-loop-i : goal.invariant-loop-i
invariant-loop-i l = (l.i ≤ l.self.count) × (l.found ≡ all_fired l.self.masks.now l.i l.l l.r) × (l.trials ≡ l.i)

abbrev pub decreases-loop-i : goal.decreases-loop-i
decreases-loop-i l = l.self.count - l.i
