-- What was copied, with what is to be copied from the loop's place on, is the whole.
use mathlib.Core.Path.{refl}
use borrow.Author.Tests.{eq-eqb, ne_eqb}
use Rattle.families.specs.Combine.{copies}
use Rattle.families.proofs.AddingRules.{gathers_one, gathers_none, gathered_all, copied_next}
use Rattle.families.proofs.rules.Rules.copies.Goals as goal
use Rattle.families.proofs.rules.Rules.copies.Goals.{then-rule-head, else-rule-head}

pub loop-rule-preserved : goal.loop-rule-preserved
loop-rule-preserved c =
    let a = c.args in
    let l = c.loop-rule in
    let rs = c.as_slice-rule-items.result.now in
    elim c.if-rule-head.branch [
      | then-rule-head w ↦ rw w.copied-is
          (gathers_one (copies a.new a.head) l.copied rs l.rule-index l.invariant _ w.push.new.self w.push.ensures.is w.push.ensures.so_many (copied_next rs l.rule-index a.new a.head c.loop-rule-test.true (eq-eqb _ _ w.if-rule-head.true)))
      | else-rule-head w ↦ rw w.copied-is
          (gathers_none (copies a.new a.head) l.copied rs l.rule-index l.invariant (copied_next rs l.rule-index a.new a.head c.loop-rule-test.true (ne_eqb _ _ w.if-rule-head.false)))
    ]

pub returns : goal.returns
unfolding copies
returns c =
    let a = c.args in
    let l = c.loop-rule in
    gathered_all (copies a.new a.head) l.copied _ l.rule-index l.invariant refl c.loop-rule-test.false c.as_slice-rule-items.ensures.is
