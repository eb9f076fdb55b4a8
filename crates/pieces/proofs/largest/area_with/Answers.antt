-- The test is that of the bit, and the area a product.
use mathlib.Core.Path.{sym, ◌∙◌}
use Rattle.pieces.specs.inner.Larger.{area_if}
use Rattle.pieces.proofs.largest.area_with.Goals as goal

pub returns-then-is_set : goal.returns-then-is_set
unfolding area_if
returns-then-is_set c = rw (sym c.is_set.ensures ∙ c.if-is_set.true) c.times.ensures.0

pub returns : goal.returns
unfolding area_if
returns c = rw (sym c.is_set.ensures ∙ c.if-is_set.false)
