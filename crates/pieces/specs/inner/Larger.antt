-- How the search for the largest piece compares.
use Rattle.std.specs.Prelude.{ℕ, Bool}
use Rattle.names.specs.Pick.{pick}
use Rattle.pieces.specs.declared.piece.Piece.{Piece}
use Rattle.pieces.specs.Area.{area}

-- the area of a piece that a test accepts, and 0 of any other, so that no other is larger than what was found
unfoldable pub area_if : Bool → Piece → ℕ
area_if accepted q = pick accepted (area q) 0
