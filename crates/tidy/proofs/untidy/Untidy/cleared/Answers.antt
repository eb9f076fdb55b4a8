-- What is left from the loop's place on, put behind what was left before it, makes the whole.
use Prim.Native.Nat.{◌+◌, ◌<◌}
use mathlib.Core.List.{[], ◌∷◌}
use mathlib.Core.Path.{◌≡◌, sym, ◌∙◌, ap}
use native.Mathlib.Omega.{arith}
use lib.ListN.{length, get_or, take}
use lib.Seq.{sets}
use Rattle.names.specs.Pick.{pick}
use Rattle.books.specs.Equal.{stands}
use Rattle.books.specs.RuleNumbers.{among}
use Rattle.books.specs.Rules.{no_rule}
use Rattle.books.proofs.StandingRules.{there-length, one_written}
use Rattle.tidy.specs.Tidied.{renumbered}
use Rattle.tidy.specs.inner.Cleared.{left_after, cleared}
use Rattle.tidy.proofs.Turns.{rule_stands}
use Rattle.tidy.proofs.LeftRules.{left_from, left_by, left_ends, found_by_number}
use Rattle.tidy.proofs.untidy.Untidy.cleared.Goals as goal
use Rattle.tidy.proofs.untidy.Untidy.cleared.Goals.{After-is_left, then-is_left, else-is_left}

pub invariant_of-rule : goal.invariant_of-rule
invariant_of-rule c = record { fits = c.rules-rule-items.ensures.fit _ (rule_stands _ _ c.loop-i-test.true) }

-- the rule at the loop's place is left or not
left : (c : After-is_left) → let rs = c.rules-rule-items.result.now in let m = c.args.marks in let i = c.loop-i.i in
    left_from m rs i ≡ pick c.is_left.result (renumbered m (get_or rs i no_rule) ∷ left_from m rs (i + 1)) (left_from m rs (i + 1))
left c =
    let untidy = c.args.self.now in
    let rs = c.rules-rule-items.result.now in
    let numbers = c.numbers_of-numbers.result in
    let i = c.loop-i.i in
    let are = c.rules-rule-items.ensures.are in
    let there = there-length untidy.family.now.rules untidy.family.now.count (omega (arith, untidy.kept.rules_few, untidy.kept.places_all)) in
    let less : i < untidy.family.now.count = omega (arith, c.loop-i-test.true, ap length are, there) in
    let found : among (take i numbers) (get_or numbers i 0) ≡ stands (take i rs) (get_or rs i no_rule) =
    rw (c.numbers_of-numbers.ensures, are) (found_by_number untidy.family.now untidy.kept i less) in
    rw c.is_left.ensures (left_by c.args.marks rs i c.loop-i-test.true _ _ found)

pub loop-i-preserved : goal.loop-i-preserved
loop-i-preserved c =
    let rs = c.rules-rule-items.result.now in
    let inv = c.loop-i.invariant in
    let here = left (goal.at.loop-i-preserved c).After-is_left in
    elim c.if-is_left.branch [
      | then-is_left w ↦ let taken = rw w.if-is_left.true at here in
          let one = one_written c.loop-i.rules c.loop-i.count (renumbered c.args.marks (get_or rs c.loop-i.i no_rule)) (left_from c.args.marks rs (c.loop-i.i + 1)) in
          rw (w.rules-is, w.count-is)
          (record {
            few = omega (arith, inv.few);
            counted = omega (arith, ap length taken, inv.counted);
            laid = rw w.renumbered.ensures (one ∙ ap (sets c.loop-i.rules c.loop-i.count) (sym taken) ∙ inv.laid);
          })
      | else-is_left w ↦ let passed = rw w.if-is_left.false at here in
          rw (w.rules-is, w.count-is)
          (record {
            few = omega (arith, inv.few);
            counted = omega (arith, ap length passed, inv.counted);
            laid = ap (sets c.loop-i.rules c.loop-i.count) (sym passed) ∙ inv.laid;
          })
    ]

pub returns : goal.returns
unfolding cleared
returns c =
    let f = c.args.self.now.family.now in
    let inv = c.loop-i.invariant in
    let none = left_ends c.args.marks c.rules-rule-items.result.now c.loop-i.i c.loop-i-test.false in
    let are : left_after c.args.marks [] c.rules-rule-items.result.now ≡ left_after c.args.marks [] (take f.count f.rules) =
    ap (left_after c.args.marks []) c.rules-rule-items.ensures.are in
    let counted : c.loop-i.count ≡ length (left_after c.args.marks [] (take f.count f.rules)) = omega (arith, inv.counted, ap length none, ap length are) in
    let laid = sym (ap (sets c.loop-i.rules c.loop-i.count) none) ∙ inv.laid ∙ ap (sets f.rules 0) are in
    let motifs = c.from.ensures ∙ c.rank.ensures in
    let start = c.from-2.ensures ∙ c.rank-2.ensures in
    λ i. record { colours = f.colours; motifs = motifs i; start = start i; count = counted i; rules = laid i }
