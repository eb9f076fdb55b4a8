-- Each way to end is a case of the definition; a number that was read ends within the run.
use Prim.Native.Nat.{◌≤◌}
use mathlib.Core.Path.{sym}
use native.Mathlib.Omega.{arith}
use lib.ListN.{length}
use Rattle.names.proofs.ReadingNumbers.{number-lies}
use Rattle.runs.proofs.framing.frame_at.Goals as goal
use Rattle.runs.proofs.framing.frame_at.Goals.{In_ok-len}

inside : (c : In_ok-len) → c.number.new.self.at ≤ length c.args.run.now
inside c = (number-lies _ _ _ _ (sym c.in_ok-len.ensures.read)).inside

pub overflow_sub-run : goal.overflow_sub-run
overflow_sub-run c = inside (goal.at.overflow_sub-run c).In_ok-len

pub overflow_add-result : goal.overflow_add-result
overflow_add-result c = omega (arith, inside (goal.at.overflow_add-result c).In_ok-len)
