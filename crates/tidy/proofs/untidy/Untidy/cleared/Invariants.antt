-- What is left from the loop's place on, put behind what was left before it, makes the whole.
use Prim.Native.Nat.{ℕ, ◌+◌, ◌≤◌}
use mathlib.Core.List.{List, []}
use mathlib.Core.Path.{◌≡◌}
use lib.ListN.{length}
use lib.Seq.{sets}
use Rattle.books.specs.declared.rule.Rule.{Rule}
use Rattle.tidy.specs.inner.Cleared.{left_after}
use Rattle.tidy.proofs.LeftRules.{left_from}
use Rattle.tidy.proofs.untidy.Untidy.cleared.Given as goal

-- the rules left of those before the loop's place, so many, stand in the first places
pub record Left (m : ℕ) (rs before : List Rule) (i count : ℕ) (rules : List Rule) : Type 0 where
  pub few : count ≤ i
  pub counted : count + length (left_from m rs i) ≡ length (left_after m [] rs)
  pub laid : sets rules count (left_from m rs i) ≡ sets before 0 (left_after m [] rs)

abbrev pub invariant-loop-i : goal.invariant-loop-i
invariant-loop-i l = Left l.marks l.rule-items l.initial.rules l.i l.count l.rules
