-- The plain search of the pieces of a sheet.
use Rattle.std.specs.Prelude.{ℕ, ◌+◌, Bool, List}
use Rattle.books.specs.Search.{gives_in}
use Rattle.books.specs.declared.rule.Rule.{Rule}
use Rattle.books.specs.declared.size.Size.{Size}
use Rattle.pieces.specs.OnSheet.{on_sheet}
use Rattle.pieces.specs.declared.piece.Piece.{Piece}

-- whether the rules give a motif a piece, by the numbers of the cells' colours; a cut leaves fewer rows and columns in all, which bounds the depth
unfoldable pub found : List Rule → Size → List ℕ → ℕ → Piece → Bool
found rules s cells a q = gives_in (on_sheet s cells) rules (q.height + q.width) a q
