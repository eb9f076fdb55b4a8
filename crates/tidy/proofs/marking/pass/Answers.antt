-- The rule at the loop's place is one of those that fit, and the step computes its function of it.
use mathlib.Core.Path.{sym, ◌∙◌}
use Rattle.tidy.proofs.Turns.{rule_stands, pass_turn}
use Rattle.tidy.proofs.marking.pass.Goals as goal

pub invariant_of-step : goal.invariant_of-step
invariant_of-step g c = record { fits = c.requires.fit _ (rule_stands _ _ c.loop-rule-test.true) }

pub loop-rule-preserved : goal.loop-rule-preserved
loop-rule-preserved g c f computes =
    let l = c.loop-rule in
    let stepped = computes l.now _ _ c.step-now.ensures in
    rw stepped (sym (pass_turn f c.args.rules.now l.now l.rule-index c.loop-rule-test.true) ∙ l.invariant f computes)
