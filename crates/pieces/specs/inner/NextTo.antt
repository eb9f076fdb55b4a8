-- The piece after another in the table.
use Rattle.std.specs.Prelude.{ℕ, ◌+◌, ◌<◌, ◌≡◌}
use Rattle.pieces.specs.declared.piece.Piece.{Piece}
use Rattle.pieces.specs.Pieces.{Inside, total, slot_of}

-- q comes right after p: its slot is the next, and it is a piece of the sheet unless p is the last
pub record NextTo (m n : ℕ) (p q : Piece) : Type 0 where
  pub one : slot_of m n q ≡ slot_of m n p + 1
  pub still : slot_of m n q < total m n → Inside m n q
