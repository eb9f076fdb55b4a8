-- The rules are laid out one after the other: after i turns the first i rows are theirs. More than all are not laid out.
use mathlib.Core.Path.{◌∙◌}
use native.Mathlib.Omega.{arith}
use lib.ListN.{replicate}
use Rattle.books.specs.Equal.{four_of}
use Rattle.books.specs.RuleBytes.{lent_rules}
use Rattle.books.proofs.LentRules.{laid-more, laid-whole}
use Rattle.books.proofs.lent.lend.Goals as goal

pub loop-i-preserved : goal.loop-i-preserved
unfolding lent_rules
loop-i-preserved c =
    rw c.loop-i.invariant (laid-more four_of (replicate 4 0) c.args.rules (omega arith) c.args.count _ c.min.ensures _ c.loop-i.i c.loop-i-test.true c.four.ensures)

pub returns : goal.returns
unfolding lent_rules
returns c =
    c.loop-i.invariant ∙ laid-whole four_of (replicate 4 0) c.args.rules (omega arith) c.args.count _ c.min.ensures c.loop-i.i c.loop-i.auto.i-end c.loop-i-test.false
