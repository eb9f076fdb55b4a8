-- After so many turns the painters of as many colours are gathered.
use mathlib.Core.Path.{◌≡◌}
use Prim.Native.Nat.{◌-◌, ◌≤◌}
use lib.ListN.{length, get_or}
use Rattle.pieces.specs.Firing.{gathered}
use Rattle.pieces.proofs.masks.painted.Given as goal

abbrev pub invariant-loop-mask : goal.invariant-loop-mask
invariant-loop-mask l = (l.mask-index ≤ length l.painters) × (l.heads ≡ gathered l.mask-index (λ k. get_or l.painters k 0))

abbrev pub decreases-loop-mask : goal.decreases-loop-mask
decreases-loop-mask l = length l.painters - l.mask-index
