-- What the tree writer asks for: a piece of the sheet, room for its tree from a place on, and a rule that fits at every node of it.
use Rattle.std.specs.Prelude.{ℕ, ◌+◌, ◌≤◌, ◌<◌, ◌≡◌, true, List, length}
use Rattle.books.specs.declared.rule.Rule.{Rule}
use Rattle.pieces.specs.declared.part.Part.{Part}
use Rattle.pieces.specs.declared.part.Parts.{Parts}
use Rattle.books.specs.declared.size.Size.{Size}
use Rattle.pieces.specs.Area.{tree_size}
use Rattle.pieces.specs.inner.Fitted.{Fitted, PartFitted}
use Rattle.pieces.specs.View.{View}
use Rattle.pieces.specs.inner.Seen.{On, whole_of}
use Rattle.pieces.specs.inner.TreeWrote.{part_room, parts_room}

-- for the node that is chosen: room for its two numbers, which are small
pub record NodeDue (rule cut at : ℕ) (tree : List ℕ) : Type 0 where
  pub room : at + 2 ≤ length tree
  pub rule_low : rule < 65536
  pub cut_low : cut < 65536

-- for the whole tree of a part
pub record TreeDue (s : Size) (v : View) (rules : List Rule) (x : Part) (at : ℕ) (tree : List ℕ) : Type 0 where
  pub on : On s x.piece
  pub room : at + part_room x ≤ length tree
  pub fitted : PartFitted v rules x

-- the same for the two parts of a join
pub record PartsDue (s : Size) (v : View) (rules : List Rule) (x : Parts) (at : ℕ) (tree : List ℕ) : Type 0 where
  pub first_on : On s x.first.piece
  pub rest_on : On s x.rest.piece
  pub room : at + parts_room x ≤ length tree
  pub first_fitted : PartFitted v rules x.first
  pub rest_fitted : PartFitted v rules x.rest

-- and for a whole sheet, where a rule need fit only if the start motif has its bit there
pub record SheetDue (s : Size) (v : View) (rules : List Rule) (start : ℕ) (tree : List ℕ) : Type 0 where
  pub room : tree_size (whole_of s) ≤ length tree
  pub fitted : v.has start (whole_of s) ≡ true → Fitted v rules start (whole_of s)
