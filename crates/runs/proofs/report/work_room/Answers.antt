-- No press has more rows and columns than the widest, so that the products fit.
use Prim.Native.Nat.{◌+◌, ◌*◌, ◌/◌, ◌≤◌}
use native.Mathlib.Nat.{mul-le-mul}
use native.Mathlib.Omega.{arith}
use Rattle.books.specs.Press.{widest}
use Rattle.books.proofs.Presses.{greatest-few}
use Rattle.runs.proofs.report.work_room.Goals as goal
use Rattle.runs.proofs.report.work_room.Goals.{After-greatest-most}

few : (c : After-greatest-most) → c.greatest-most.result ≤ widest
few c = rw c.greatest-most.ensures (greatest-few c.args.press)

pairs : (c : After-greatest-most) → let n = c.greatest-most.result in n * (n + 1) ≤ widest * (widest + 1)
pairs c = let more : c.greatest-most.result + 1 ≤ widest + 1 = omega (arith, few c) in mul-le-mul (few c) more

half : (c : After-greatest-most) → let n = c.greatest-most.result in n * (n + 1) / 2 ≤ widest * (widest + 1) / 2
half c = omega (arith, pairs c)

pub overflow_add-stretches : goal.overflow_add-stretches
overflow_add-stretches c = omega (arith, few (goal.at.overflow_add-stretches c).After-greatest-most)

pub overflow_mul-stretches : goal.overflow_mul-stretches
overflow_mul-stretches c = omega (arith, pairs (goal.at.overflow_mul-stretches c).After-greatest-most)

pub overflow_mul-result : goal.overflow_mul-result
overflow_mul-result c = omega (arith, half (goal.at.overflow_mul-result c).After-greatest-most, mul-le-mul (half (goal.at.overflow_mul-result c).After-greatest-most) (half (goal.at.overflow_mul-result c).After-greatest-most))

pub returns : goal.returns
returns c = rw c.greatest-most.ensures
