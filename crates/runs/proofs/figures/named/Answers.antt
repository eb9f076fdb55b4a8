-- Two parts are copied, and the rest is read.
use Rattle.runs.specs.inner.Adding.{standing}
use Rattle.runs.proofs.figures.named.Goals as goal

pub returns : goal.returns
unfolding standing
returns c = rw (c.copy_from_slice.ensures.after, c.copy_from_slice-2.ensures.after)
