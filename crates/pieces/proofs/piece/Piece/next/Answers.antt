-- The four cases of the next piece.
use Rattle.pieces.proofs.NextPiece.{next-right, next-below, next-wider, next-taller}
use Rattle.pieces.proofs.piece.Piece.next.Goals as goal

pub returns-then-self-size : goal.returns-then-self-size
returns-then-self-size c = next-right _ _ _ c.requires.inside c.if-self-size.true

pub returns-then-self-size-2 : goal.returns-then-self-size-2
returns-then-self-size-2 c =
    next-below _ _ _ c.requires.inside c.if-self-size.false c.if-self-size-2.true

pub returns-then-self-size-3 : goal.returns-then-self-size-3
returns-then-self-size-3 c =
    next-wider _ _ _ c.requires.inside c.if-self-size.false c.if-self-size-2.false c.if-self-size-3.true

pub returns : goal.returns
returns c =
    rw c.cell.ensures (next-taller _ _ _ c.requires.inside c.if-self-size.false c.if-self-size-2.false c.if-self-size-3.false)
