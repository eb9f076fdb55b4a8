-- What is used of the greatest rows and columns of a press, whichever it is: they are no more than those of the widest, and there is one of each exactly where there
-- is such a press. Each press is looked at.
use Prim.Native.Nat.{ℕ, zero, suc, ◌≤◌}
use mathlib.Core.Logic.{◌↔◌}
use native.Mathlib.Omega.{arith}
use Rattle.books.specs.Press.{widest, greatest_of, IsPress}

pub greatest-few : (press : ℕ) → greatest_of press ≤ widest
unfolding greatest_of
greatest-few zero = omega arith
greatest-few (suc zero) = omega arith
greatest-few (suc (suc press)) = omega arith

pub greatest-some : (press : ℕ) → IsPress press ↔ (1 ≤ greatest_of press)
unfolding greatest_of
greatest-some zero = (λ h. omega arith, λ h. omega arith)
greatest-some (suc zero) = (λ h. omega arith, λ h. omega arith)
greatest-some (suc (suc press)) = (λ h. absurd (omega arith), λ h. absurd (omega arith))
