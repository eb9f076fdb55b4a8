-- The tests are those of the definition, one after the other.
use Rattle.std.proofs.Common.{arith}
use Rattle.names.specs.Pick.{and_then}
use Rattle.desk.specs.Recolour.{has?}
use Rattle.desk.proofs.recolour.Cell.is_on.Goals as goal

pub returns-then-self-size-2 : goal.returns-then-self-size-2
unfolding has? and_then
returns-then-self-size-2 c = grind arith

pub returns-else-self-size-2 : goal.returns-else-self-size-2
unfolding has? and_then
returns-else-self-size-2 c = grind arith

pub returns-else-self-size : goal.returns-else-self-size
unfolding has? and_then
returns-else-self-size c = grind arith
