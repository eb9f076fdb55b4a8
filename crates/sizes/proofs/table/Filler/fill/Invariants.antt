-- The entries before the slot that is due stand.
use mathlib.Core.Path.{◌≡◌}
use Prim.Native.Nat.{◌-◌}
use Rattle.pieces.specs.Firing.{fire_of}
use Rattle.sizes.specs.Table.{with_entries}
use Rattle.sizes.proofs.table.Filler.fill.Given as goal

abbrev pub invariant-loop-due : goal.invariant-loop-due
invariant-loop-due l = l.sizes ≡ with_entries (fire_of l.self.masks.now l.self.joins) l.self.cols (l.due - 1) l.initial.sizes
