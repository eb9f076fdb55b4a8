-- What was raised, with what is to be raised from the loop's place on, is the whole.
use mathlib.Core.List.{List, map, Memᴰ}
use mathlib.Core.Path.{refl, subst}
use Rattle.books.specs.declared.rule.Rule.{Rule}
use Rattle.families.specs.inner.Gathered.{raised_by}
use Rattle.families.proofs.AddingRules.{gathers_one, gathered_all, changed_next, rule_on, rule_stands}
use Rattle.families.proofs.rules.Rules.raised.Goals as goal

pub raised_rule-requires : goal.raised_rule-requires
raised_rule-requires c =
    let rs = c.as_slice-rule-items.result.now in
    let i = c.loop-rule.rule-index in
    record {
      few = c.requires.few;
      fits = c.requires.fits _ (subst (λ (l : List Rule). Memᴰ (rule_on rs i) l) c.as_slice-rule-items.ensures.is (rule_stands rs i c.loop-rule-test.true));
    }

pub loop-rule-preserved : goal.loop-rule-preserved
loop-rule-preserved c =
    let a = c.args in
    let l = c.loop-rule in
    let rs = c.as_slice-rule-items.result.now in
    gathers_one (map (raised_by a.by a.numbers.now)) l.raised rs l.rule-index l.invariant _ c.push.new.self (rw c.raised_rule.ensures at c.push.ensures.is) c.push.ensures.so_many
    (changed_next rs l.rule-index (raised_by a.by a.numbers.now) c.loop-rule-test.true)

pub returns : goal.returns
returns c =
    let l = c.loop-rule in
    gathered_all (map (raised_by c.args.by c.args.numbers.now)) l.raised _ l.rule-index l.invariant refl c.loop-rule-test.false c.as_slice-rule-items.ensures.is
