-- The test is the definition's.
use mathlib.Core.Path.{refl}
use native.Mathlib.Omega.{arith}
use borrow.Author.Tests.{eq-eqb, ne_eqb}
use Rattle.runs.specs.inner.Adding.{least_with}
use Rattle.runs.proofs.counting.least_with.Goals as goal

pub returns-then-any-eq0 : goal.returns-then-any-eq0
unfolding least_with
returns-then-any-eq0 c = rw (eq-eqb c.args.any 0 c.if-any-eq0.true) refl

pub returns-else-any-eq0 : goal.returns-else-any-eq0
unfolding least_with
returns-else-any-eq0 c = rw (ne_eqb c.args.any 0 c.if-any-eq0.false) (omega arith)
