-- What the code judges by: the pieces of a sheet as they come apart in it, with the numbers of the cells' colours.
use Rattle.std.specs.Prelude.{ℕ, ◌+◌, ◌≤◌, List, Result, Ok, Err, drop}
use Rattle.books.specs.declared.rule.Rule.{Rule}
use Rattle.books.specs.declared.size.Size.{Size}
use Rattle.pieces.specs.Most.{most}
use Rattle.pieces.specs.OnSheet.{on_sheet}
use Rattle.pieces.specs.Pieces.{Inside}
use Rattle.pieces.specs.declared.part.Part.{Part}
use Rattle.pieces.specs.declared.piece.Piece.{Piece}
use Rattle.trees.specs.declared.node.Node.{Node}
use Rattle.trees.specs.Judge.{Judged, past, failed, judge_in}

-- what is kept of judging: the number of nodes read, without those that are left; or the place of the first that fails
abbrev pub verdict : Judged → Result ℕ ℕ
verdict (past e left) = Ok e
verdict (failed e) = Err e

-- the nodes from a place on, held to a piece and its motif
unfoldable pub judged_at : Size → List ℕ → List Rule → Part → List Node → ℕ → Result ℕ ℕ
judged_at s cells rules x ns at =
    verdict (judge_in (on_sheet s cells) rules (x.piece.height + x.piece.width) x.motif x.piece (drop at ns) at)

-- a piece lies on a sheet that the code has room for
pub record Lying (s : Size) (q : Piece) : Type 0 where
  pub rows_few : s.rows ≤ most
  pub cols_few : s.cols ≤ most
  pub inside : Inside s.rows s.cols q
