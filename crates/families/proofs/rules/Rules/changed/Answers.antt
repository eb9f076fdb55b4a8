-- What was changed, with what is to be changed from the loop's place on, is the whole.
use mathlib.Core.List.{map}
use mathlib.Core.Path.{refl}
use Rattle.families.specs.inner.Asked.{changed_rule}
use Rattle.families.proofs.AddingRules.{gathers_one, gathered_all, changed_next}
use Rattle.families.proofs.rules.Rules.changed.Goals as goal

pub loop-rule-preserved : goal.loop-rule-preserved
loop-rule-preserved c =
    let l = c.loop-rule in
    let rs = c.as_slice-rule-items.result.now in
    let turn = changed_rule c.args.change in
    gathers_one (map turn) l.changed rs l.rule-index l.invariant _ c.push.new.self (rw c.body.ensures at c.push.ensures.is) c.push.ensures.so_many
    (changed_next rs l.rule-index turn c.loop-rule-test.true)

pub returns : goal.returns
returns c =
    let l = c.loop-rule in
    gathered_all (map (changed_rule c.args.change)) l.changed _ l.rule-index l.invariant refl c.loop-rule-test.false c.as_slice-rule-items.ensures.is
