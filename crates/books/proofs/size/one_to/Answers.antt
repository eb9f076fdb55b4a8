-- Both bounds are tested.
use Rattle.std.proofs.Common.{rules}
use Rattle.names.specs.Pick.{and_then}
use Rattle.books.specs.Size.{one_to?}
use Rattle.books.proofs.size.one_to.Goals as goal

pub returns-then-n-gt0 : goal.returns-then-n-gt0
unfolding one_to? and_then
returns-then-n-gt0 c = search rules

pub returns-else-n-gt0 : goal.returns-else-n-gt0
unfolding one_to? and_then
returns-else-n-gt0 c = search rules
