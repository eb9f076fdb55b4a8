-- The pieces that are left to be passed.
use Rattle.std.specs.Prelude.{List, drop}
use Rattle.pieces.specs.Pieces.{pieces}
use Rattle.pieces.specs.declared.piece.Piece.{Piece}
use Rattle.pieces.specs.declared.pieces.Pieces.{Pieces}

abbrev pub pieces_left : Pieces → List Piece
pieces_left s = drop s.slot (pieces s.size.rows s.size.cols)
