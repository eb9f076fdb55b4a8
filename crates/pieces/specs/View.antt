-- What the tree goes by beside the rules: which motifs have a piece, and which colours a cell.
use Rattle.std.specs.Prelude.{ℕ, Bool}
use Rattle.books.specs.Contents.{Contents}
use Rattle.books.specs.Picture.{Picture}
use Rattle.books.specs.Decide.{called?}
use Rattle.pieces.specs.declared.piece.Piece.{Piece}

-- whether a motif has its bit set at a piece; whether a colour of the book is that of a piece's first cell
pub record View : Type 0 where
  pub has : ℕ → Piece → Bool
  pub paints : ℕ → Piece → Bool

-- by the names of the book and the picture, with any test for the bits
abbrev pub named : Contents → Picture → (ℕ → Piece → Bool) → View
named b p has = record { has = has; paints = λ c q. called? b c (p.cell q.top q.left) }
