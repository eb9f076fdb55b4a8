-- What is left of the passes, done from the loop's turn on, is all of them.
use Prim.Native.Nat.{◌-◌}
use mathlib.Core.Path.{◌≡◌}
use Rattle.tidy.specs.Marking.{passes}
use Rattle.tidy.specs.inner.Steps.{Computes}
use Rattle.tidy.proofs.marking.passes.Given as goal

abbrev pub invariant-loop : goal.invariant-loop
invariant-loop g l = (f : _) → Computes (goal.F-post g l.step) f → passes f l.rules (l.turns - l.counter) l.now ≡ passes f l.rules l.turns l.marks
