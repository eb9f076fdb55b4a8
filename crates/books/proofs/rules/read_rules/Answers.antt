-- The rules so far stand with their numbers, and reading what is left from here gives what reading them all gives.
use mathlib.Core.Path.{◌∙◌, refl, sym}
use Rattle.books.proofs.RulesGoOn.{going-begins, going-repeats, going_next}
use Rattle.books.proofs.rules.read_rules.Goals as goal

pub loop-i-init : goal.loop-i-init
loop-i-init c = record { going = rw c.no_rules-rules.ensures (going-begins _ _ _ _ _ _); same = refl }

pub returns-then-refuse-clause-read : goal.returns-then-refuse-clause-read
returns-then-refuse-clause-read c =
    let rule = rw c.loop-i.invariant.same at (sym c.in_ok-rule.ensures.read) in
    let a = c.args.counts in
    rw c.at.ensures
    (going-repeats _ _ _ _ _ _ c.loop-i.invariant.going c.loop-i-test.true a.motifs_few a.colours_few c.requires rule c.rule_number-number.ensures refl
    (sym c.refuse.ensures ∙ c.if-refuse.true))

pub loop-i-preserved : goal.loop-i-preserved
loop-i-preserved c =
    let rule = rw c.loop-i.invariant.same at (sym c.in_ok-rule.ensures.read) in
    let a = c.args.counts in
    record {
      going = going_next _ _ _ _ _ _ c.loop-i.invariant.going c.loop-i-test.true a.motifs_few a.colours_few c.requires rule c.rule_number-number.ensures refl
          (sym c.refuse.ensures ∙ c.if-refuse.false);
      same = c.read.ensures.same ∙ c.loop-i.invariant.same;
    }
