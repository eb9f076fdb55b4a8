-- A sheet that the code's numbers have room for, and its pieces.
use Rattle.std.specs.Prelude.{ℕ, ◌*◌, ◌≤◌, ◌≡◌}
use Rattle.books.specs.Size.{Within}
use Rattle.pieces.specs.declared.piece.Piece.{Piece}
use Rattle.pieces.specs.Most.{most}
use Rattle.pieces.specs.Pieces.{Inside, slot_of}

-- the most cells, which are also more than the stretches of a row
abbrev pub most_cells : ℕ
most_cells = most * most

-- two numbers whose product there is room for
pub record Factors (a b : ℕ) : Type 0 where
  pub first_few : a ≤ most_cells
  pub second_few : b ≤ most_cells

-- a piece of such a sheet, ...
pub record Lies (m n : ℕ) (p : Piece) : Type 0 where
  pub room : Within most m n
  pub inside : Inside m n p

-- ... and with its slot
pub record Slotted (m n : ℕ) (p : Piece) (slot : ℕ) : Type 0 where
  pub room : Within most m n
  pub inside : Inside m n p
  pub slot_is : slot ≡ slot_of m n p
