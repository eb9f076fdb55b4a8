-- What the table of a picture holds: for each piece, the motifs that derive it.
use Rattle.std.specs.Prelude.{ℕ, ◌+◌, List, map}
use Rattle.names.specs.Bits.{bits}
use Rattle.books.specs.Contents.{Contents}
use Rattle.books.specs.Picture.{Picture}
use Rattle.books.specs.Decide.{derives?}
use Rattle.pieces.specs.Pieces.{pieces}
use Rattle.pieces.specs.declared.piece.Piece.{Piece}

-- the piece of a picture, as a picture by itself
abbrev pub cut : Picture → Piece → Picture
cut p q =
    record { rows = q.height; cols = q.width; cell = λ i j. p.cell (q.top + i) (q.left + j) }

-- the motifs that derive a picture
unfoldable pub entry : Contents → Picture → ℕ
entry b q = bits b.motifs (λ a. derives? b a q)

-- the entries of all pieces, in order
unfoldable pub table : Contents → Picture → List ℕ
table b p = map (λ q. entry b (cut p q)) (pieces p.rows p.cols)
