-- The cells are written one after the other.
use mathlib.Core.Path.{◌≡◌}
use Prim.Native.Nat.{◌-◌, ◌≤◌}
use lib.ListN.{length}
use Rattle.pieces.specs.Filling.{painted_by}
use Rattle.pieces.proofs.masks.Masks.paint_cells.Given as goal

abbrev pub invariant-loop-i : goal.invariant-loop-i
invariant-loop-i l = (l.i ≤ l.count) × (length l.work ≡ length l.initial.work) × (l.work ≡ painted_by l.self.masks.now l.colours l.i l.initial.work)

abbrev pub decreases-loop-i : goal.decreases-loop-i
decreases-loop-i l = l.count - l.i
