-- What was gathered, with what is to be gathered from the loop's place on, is the whole.
use Rattle.families.specs.Combine.{copies}
use Rattle.families.proofs.AddingRules.{StillGathers}
use Rattle.families.proofs.rules.Rules.copies.Given as goal

abbrev pub invariant-loop-rule : goal.invariant-loop-rule
invariant-loop-rule l = StillGathers (copies l.new l.head) l.copied l.rule-items l.rule-index
