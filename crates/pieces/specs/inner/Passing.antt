-- A piece that is due while the pieces of a sheet are passed, and its slot.
use Rattle.std.specs.Prelude.{ℕ, ◌≤◌, ◌<◌, ◌≡◌}
use Rattle.books.specs.Size.{Within}
use Rattle.books.specs.declared.size.Size.{Size}
use Rattle.pieces.specs.Most.{most}
use Rattle.pieces.specs.Pieces.{Inside, total, slot_of}
use Rattle.pieces.specs.declared.piece.Piece.{Piece}

pub record Passing (s : Size) (p : Piece) (slot count : ℕ) : Type 0 where
  pub room : Within most s.rows s.cols
  pub all : count ≡ total s.rows s.cols
  pub upto : slot ≤ count
  pub here : slot_of s.rows s.cols p ≡ slot
  pub inside : slot < count → Inside s.rows s.cols p
