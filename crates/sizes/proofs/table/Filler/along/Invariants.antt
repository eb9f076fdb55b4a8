-- After k turns the first k cuts are gathered.
use mathlib.Core.Path.{◌≡◌}
use Rattle.pieces.specs.Firing.{fire_of}
use Rattle.sizes.specs.inner.Along.{along}
use Rattle.sizes.proofs.table.Filler.along.Given as goal

abbrev pub invariant-loop-k : goal.invariant-loop-k
invariant-loop-k l = l.found ≡ along (fire_of l.self.masks.now l.self.joins l.d) l.sizes l.first l.due l.step l.k
