-- The rules are put one after the other: what is left, split from here, is the whole.
use mathlib.Core.Path.{◌≡◌}
use Prim.Native.Nat.{◌-◌, ◌≤◌}
use lib.ListN.{length, drop}
use Rattle.pieces.specs.Masks.{masked, split_from}
use Rattle.pieces.proofs.Splitting.{PlacesFor}
use Rattle.pieces.proofs.masks.split.Given as goal

abbrev pub invariant-loop-rule : goal.invariant-loop-rule
invariant-loop-rule l =
    (l.rule-index ≤ length l.rules) × PlacesFor (length l.rules - l.rule-index) (masked l.masks l.joins)
    × (split_from (drop l.rule-index l.rules) (masked l.masks l.joins) ≡ split_from l.rules (masked l.initial.masks l.initial.joins))

abbrev pub decreases-loop-rule : goal.decreases-loop-rule
decreases-loop-rule l = length l.rules - l.rule-index
