-- Each test is one of the definition's, in its order.
use Rattle.std.proofs.Common.{rules, arith}
use Rattle.names.specs.Pick.{and_then}
use Rattle.pieces.specs.Refill.{refills?}
use Rattle.pieces.proofs.refill.refills.Goals as goal

pub returns-then-row-size : goal.returns-then-row-size
unfolding refills? and_then
returns-then-row-size c = search rules

pub returns-else-row-size : goal.returns-else-row-size
unfolding refills? and_then
returns-else-row-size c = grind arith
