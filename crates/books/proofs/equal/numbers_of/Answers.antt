-- The rules are numbered one after the other: after i turns the first i numbers are theirs. More than all are not numbered.
use mathlib.Core.Path.{refl, ◌∙◌}
use native.Mathlib.Omega.{arith}
use Rattle.books.specs.RuleNumbers.{rule_number, numbers_of}
use Rattle.books.proofs.LentRules.{laid-more, laid-whole}
use Rattle.books.proofs.equal.numbers_of.Goals as goal

pub loop-i-init : goal.loop-i-init
unfolding numbers_of
loop-i-init c = refl

pub loop-i-preserved : goal.loop-i-preserved
unfolding numbers_of
loop-i-preserved c =
    rw c.loop-i.invariant (laid-more rule_number 0 c.args.rules (omega arith) c.args.count _ c.min.ensures _ c.loop-i.i c.loop-i-test.true c.rule_number.ensures)

pub returns : goal.returns
unfolding numbers_of
returns c =
    c.loop-i.invariant ∙ laid-whole rule_number 0 c.args.rules (omega arith) c.args.count _ c.min.ensures c.loop-i.i c.loop-i.auto.i-end c.loop-i-test.false
