-- A piece of a sheet that there is room for: its first cell has a number, and it is one cell of a colour where that number is the colour's.
use Prim.Native.Nat.{ℕ, ◌*◌, ◌≤◌}
use mathlib.Core.Path.{◌≡◌}
use mathlib.Core.List.{List}
use lib.ListN.{length}
use Rattle.books.specs.declared.size.Size.{Size}
use Rattle.pieces.specs.Choice.{covers}
use Rattle.pieces.specs.Most.{most}
use Rattle.pieces.specs.OnSheet.{numbered, covers_on}
use Rattle.pieces.specs.Pieces.{Inside}
use Rattle.pieces.specs.declared.piece.Piece.{Piece}
use Rattle.pieces.proofs.PiecesOnSheets.{cell-found}

-- the tests of where the piece lies are passed
pub cell_is : (s : Size) (cells : List ℕ) (q : Piece) → s.rows ≤ most → s.cols ≤ most → s.rows * s.cols ≤ length cells → Inside s.rows s.cols q → (c : ℕ)
    → covers_on s cells q c ≡ covers (numbered s.cols cells) q c
cell_is s cells q rows_few cols_few cells_all i c = cell-found s q rows_few cols_few i cells c cells_all
