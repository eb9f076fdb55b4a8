-- What was left, with what is to be left from the loop's place on, is the whole. A number stands among those of the other rules exactly where its rule stands among them.
use mathlib.Core.List.{List, map, Memᴰ}
use mathlib.Core.Path.{◌≡◌, refl, sym, ◌∙◌, ap, subst}
use native.Mathlib.Omega.{arith}
use lib.ListN.{take}
use Rattle.books.specs.Equal.{stands}
use Rattle.books.specs.RuleNumbers.{rule_number}
use Rattle.books.specs.declared.rule.Rule.{Rule}
use Rattle.books.proofs.EqualNumbers.{among-stands, numbers-before}
use Rattle.families.specs.inner.Gathered.{standing, missing, left_by}
use Rattle.families.proofs.AddingRules.{gathers_one, gathers_none, gathered_all, missed_next, rule_on, rule_stands}
use Rattle.families.proofs.rules.Rules.missing_from.Goals as goal
use Rattle.families.proofs.rules.Rules.missing_from.Goals.{After-stands, then-not-stands, else-not-stands}

-- the rule is found as its number is
found : (c : After-stands) → stands (standing c.args.others.now) (rule_on c.as_slice-rule-items.result.now c.loop-rule.rule-index) ≡ c.stands.result
found c =
    let others = c.args.others.now in
    let rs = c.as_slice-rule-items.result.now in
    let i = c.loop-rule.rule-index in
    let numbers : take others.count c.numbers_of-numbers.result ≡ map rule_number (standing others) =
    ap (take others.count) c.numbers_of-numbers.ensures ∙ numbers-before others.rules others.count (omega (arith, others.few, others.places)) in
    let stand = subst (λ (l : List Rule). Memᴰ (rule_on rs i) l) c.as_slice-rule-items.ensures.is (rule_stands rs i c.loop-rule-test.true) in
    sym (rw (c.stands.ensures, numbers, c.rule_number.ensures) (among-stands (standing others) (rule_on rs i) c.requires.others_fit (c.requires.rules_fit _ stand)))

pub loop-rule-preserved : goal.loop-rule-preserved
loop-rule-preserved c =
    let l = c.loop-rule in
    let rs = c.as_slice-rule-items.result.now in
    let others = standing c.args.others.now in
    let is = found (goal.at.loop-rule-preserved c).After-stands in
    elim c.if-not-stands.branch [
      | then-not-stands w ↦ rw w.left-is
          (gathers_one (missing others) l.left rs l.rule-index l.invariant _ w.push.new.self w.push.ensures.is w.push.ensures.so_many
          (missed_next rs l.rule-index (stands others) c.loop-rule-test.true (is ∙ w.if-not-stands.true)))
      | else-not-stands w ↦ rw w.left-is
          (gathers_none (missing others) l.left rs l.rule-index l.invariant
          (missed_next rs l.rule-index (stands others) c.loop-rule-test.true (is ∙ w.if-not-stands.false)))
    ]

pub returns : goal.returns
unfolding left_by
returns c =
    let l = c.loop-rule in
    gathered_all (missing (standing c.args.others.now)) l.left _ l.rule-index l.invariant refl c.loop-rule-test.false c.as_slice-rule-items.ensures.is
