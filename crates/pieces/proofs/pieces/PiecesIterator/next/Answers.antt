-- The piece that is due is the first of those that are left.
use Rattle.std.proofs.Common.{arith}
use Rattle.pieces.proofs.PassingPieces.{passing_first}
use Rattle.pieces.proofs.pieces.PiecesIterator.next.Goals as goal

pub returns-clause-steps : goal.returns-clause-steps
returns-clause-steps c = passing_first _ _ _ _ c.args.self.now.passing (omega (arith, c.args.self.now.passing.upto))
