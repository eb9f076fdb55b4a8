-- What was gathered, with what is to be gathered from the loop's place on, is the whole.
use mathlib.Core.List.{map}
use Rattle.families.specs.inner.Gathered.{raised_by}
use Rattle.families.proofs.AddingRules.{StillGathers}
use Rattle.families.proofs.rules.Rules.raised.Given as goal

abbrev pub invariant-loop-rule : goal.invariant-loop-rule
invariant-loop-rule l = StillGathers (map (raised_by l.by l.numbers)) l.raised l.rule-items l.rule-index
