-- With so many cuts ahead the course has gone as many steps as there were cuts before, and these are gathered, by a trial for each join at each of them.
use mathlib.Core.Path.{◌≡◌}
use Prim.Native.Nat.{◌+◌, ◌-◌, ◌*◌, ◌≤◌}
use lib.Bits.{bit_or}
use Rattle.pieces.specs.Firing.{gathered}
use Rattle.pieces.specs.inner.Course.{after}
use Rattle.pieces.specs.inner.Along.{at_cut}
use Rattle.pieces.proofs.masks.Rows.join_along.Given as goal

abbrev pub invariant-loop-ahead : goal.invariant-loop-ahead
invariant-loop-ahead l =
    (l._ahead ≤ l.initial.c.cuts) × (l.c ≡ after (l.initial.c.cuts - l._ahead) l.initial.c) × (l.found ≡ bit_or l.initial.found (gathered (l.initial.c.cuts - l._ahead) (at_cut l.work l.self.masks.now l.self.count l.initial.c)))
    × (l.trials ≡ l.initial.trials + (l.initial.c.cuts - l._ahead) * l.self.count)

abbrev pub decreases-loop-ahead : goal.decreases-loop-ahead
decreases-loop-ahead l = l._ahead
