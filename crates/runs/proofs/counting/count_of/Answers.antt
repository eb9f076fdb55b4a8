-- The test is the definition's.
use native.Mathlib.Omega.{arith}
use borrow.Author.Tests.{eq-eqb, ne_eqb}
use Rattle.runs.specs.inner.Adding.{count_place}
use Rattle.runs.proofs.counting.count_of.Goals as goal

pub returns-then-answer-number : goal.returns-then-answer-number
unfolding count_place
returns-then-answer-number c = rw (eq-eqb c.args.answer 11 (omega (arith, c.if-answer-number.true, c.number.ensures)))

pub returns-else-answer-number : goal.returns-else-answer-number
unfolding count_place
returns-else-answer-number c = rw (ne_eqb c.args.answer 11 (λ e. omega (arith, c.if-answer-number.false, c.number.ensures)))
