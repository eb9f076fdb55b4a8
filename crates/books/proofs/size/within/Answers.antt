-- The rows are tested, and then the columns.
use Rattle.std.proofs.Common.{arith}
use Rattle.names.specs.Pick.{and_then}
use Rattle.books.specs.Size.{within?}
use Rattle.books.proofs.size.within.Goals as goal

pub returns-then-one_to : goal.returns-then-one_to
unfolding within? and_then
returns-then-one_to c = grind arith

pub returns-else-one_to : goal.returns-else-one_to
unfolding within? and_then
returns-else-one_to c = grind arith
