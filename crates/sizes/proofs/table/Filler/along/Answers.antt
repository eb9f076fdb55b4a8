-- After k turns the first k cuts are gathered.
use mathlib.Core.Path.{refl, sym, ap₂, ◌∙◌}
use lib.Bits.{bit_or}
use Rattle.pieces.specs.Firing.{gathered}
use Rattle.pieces.proofs.Gathered.{gathered_next}
use Rattle.sizes.specs.inner.Along.{along}
use Rattle.sizes.proofs.table.Filler.along.Goals as goal

pub loop-k-init : goal.loop-k-init
unfolding along gathered
loop-k-init c = refl

pub loop-k-preserved : goal.loop-k-preserved
unfolding along
loop-k-preserved c = ap₂ bit_or c.loop-k.invariant c.fire-found.ensures ∙ sym (gathered_next c.loop-k.k _)
