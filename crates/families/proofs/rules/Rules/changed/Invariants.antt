-- What was gathered, with what is to be gathered from the loop's place on, is the whole.
use mathlib.Core.List.{map}
use Rattle.families.specs.inner.Asked.{changed_rule}
use Rattle.families.proofs.AddingRules.{StillGathers}
use Rattle.families.proofs.rules.Rules.changed.Given as goal

abbrev pub invariant-loop-rule : goal.invariant-loop-rule
invariant-loop-rule l = StillGathers (map (changed_rule l.change)) l.changed l.rule-items l.rule-index
