-- The two parts of a piece at a cut, with the motifs that a join wants of them.
use Rattle.std.specs.Prelude.{ℕ, ◌+◌, ◌≤◌}
use Rattle.pieces.specs.declared.piece.Piece.{Piece}
use Rattle.books.specs.declared.rule.Dir.{Dir}
use Rattle.pieces.specs.declared.part.Part.{Part}
use Rattle.pieces.specs.declared.part.Parts.{Parts}
use Rattle.pieces.specs.Most.{most}
use Rattle.pieces.specs.Parts.{reach, first_part, rest_part}

-- a cut in a piece that lies on a sheet that the code's numbers have room for
pub record CutIn (d : Dir) (k : ℕ) (q : Piece) : Type 0 where
  pub within : k ≤ reach d q
  pub low : q.top + q.height ≤ most
  pub right : q.left + q.width ≤ most

abbrev pub part : Piece → ℕ → Part
part q a = record { piece = q; motif = a }

abbrev pub parts_of : Dir → ℕ → ℕ → ℕ → Piece → Parts
parts_of d k l r q = record { first = part (first_part d k q) l; rest = part (rest_part d k q) r }
