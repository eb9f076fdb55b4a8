-- What is left of the pass, done from the loop's place on, is the whole pass.
use mathlib.Core.Path.{◌≡◌}
use lib.ListN.{drop}
use Rattle.tidy.specs.Marking.{pass}
use Rattle.tidy.specs.inner.Steps.{Computes}
use Rattle.tidy.proofs.marking.pass.Given as goal

abbrev pub invariant-loop-rule : goal.invariant-loop-rule
invariant-loop-rule g l = (f : _) → Computes (goal.F-post g l.step) f → pass f (drop l.rule-index l.rules) l.now ≡ pass f l.rules l.marks
