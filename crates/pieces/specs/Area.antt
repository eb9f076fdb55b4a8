-- The cells of a piece, and how many numbers its tree has.
use Rattle.std.specs.Prelude.{ℕ, ◌-◌, ◌*◌}
use Rattle.pieces.specs.declared.piece.Piece.{Piece}
use Rattle.pieces.specs.Pieces.{piece}

-- a whole sheet of m rows and n columns
abbrev pub whole : ℕ → ℕ → Piece
whole m n = piece m n 0 0

abbrev pub area : Piece → ℕ
area q = q.height * q.width

-- two for each of the 2mn - 1 nodes
abbrev pub tree_size : Piece → ℕ
tree_size q = 2 * (2 * area q - 1)
