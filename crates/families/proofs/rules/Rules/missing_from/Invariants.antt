-- What was gathered, with what is to be gathered from the loop's place on, is the whole.
use Rattle.families.specs.inner.Gathered.{standing, missing}
use Rattle.families.proofs.AddingRules.{StillGathers}
use Rattle.families.proofs.rules.Rules.missing_from.Given as goal

abbrev pub invariant-loop-rule : goal.invariant-loop-rule
invariant-loop-rule l = StillGathers (missing (standing l.others)) l.left l.rule-items l.rule-index
