-- What the code sees of a sheet of a size: the bits of a table, and the numbers that the cells' colours have in the book.
use Rattle.std.specs.Prelude.{ℕ, ◌+◌, ◌*◌, ◌≤◌, Bool, List, eqb, length, get_or}
use Rattle.names.specs.Pick.{and_then}
use Rattle.books.specs.Size.{Within}
use Rattle.books.specs.declared.size.Size.{Size}
use Rattle.pieces.specs.Most.{most}
use Rattle.pieces.specs.declared.piece.Piece.{Piece}
use Rattle.pieces.specs.declared.part.Parts.{Parts}
use Rattle.pieces.specs.Pieces.{Inside, total}
use Rattle.pieces.specs.Area.{whole}
use Rattle.pieces.specs.View.{View}
use Rattle.pieces.specs.Largest.{marked}

-- a piece of the sheet, and the whole of it
abbrev pub On : Size → Piece → Type 0
On s q = Inside s.rows s.cols q

abbrev pub whole_of : Size → Piece
whole_of s = whole s.rows s.cols

-- by a table, ...
unfoldable pub has_bit : Size → List ℕ → ℕ → Piece → Bool
has_bit s work a q = marked s.rows s.cols work a q

-- ... and by the number that each cell's colour has in the book
unfoldable pub has_colour : Size → List ℕ → ℕ → Piece → Bool
has_colour s colours c q = eqb (get_or colours (q.top * s.cols + q.left) 0) c

abbrev pub seen : Size → List ℕ → List ℕ → View
seen s work colours = record { has = has_bit s work; paints = has_colour s colours }

-- both parts of a cut have their bits
abbrev pub both_have : (ℕ → Piece → Bool) → Parts → Bool
both_have has x = and_then (has x.first.motif x.first.piece) (λ _. has x.rest.motif x.rest.piece)

-- the sheet is of a size that the code has room for, and the table long enough for it; ...
pub record Tabled (s : Size) (work : List ℕ) : Type 0 where
  pub sizes : Within most s.rows s.cols
  pub entries : total s.rows s.cols ≤ length work

-- ... and there is a colour for each cell
pub record Celled (s : Size) (colours : List ℕ) : Type 0 where
  pub sizes : Within most s.rows s.cols
  pub cells : s.rows * s.cols ≤ length colours

-- both parts of a cut are pieces of the sheet
pub record BothOn (s : Size) (x : Parts) : Type 0 where
  pub first_on : On s x.first.piece
  pub rest_on : On s x.rest.piece
