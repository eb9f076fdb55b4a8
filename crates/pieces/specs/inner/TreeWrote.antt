-- What writing a tree leaves in a slice, and what it answers.
use Rattle.std.specs.Prelude.{ℕ, ◌+◌, ◌≡◌, List, ◌++◌, length, take, drop}
use Rattle.books.specs.declared.rule.Rule.{Rule}
use Rattle.pieces.specs.declared.part.Part.{Part}
use Rattle.pieces.specs.declared.part.Parts.{Parts}
use Rattle.pieces.specs.Area.{tree_size}
use Rattle.pieces.specs.View.{View}
use Rattle.pieces.specs.Tree.{tree_of}

-- from s to t the numbers xs were written at a place, and all else is as it was; the place after them is answered
pub record TreeWrote (s t : List ℕ) (at : ℕ) (xs : List ℕ) (next : ℕ) : Type 0 where
  pub next_is : next ≡ at + length xs
  pub written : t ≡ take at s ++ (xs ++ drop (at + length xs) s)

-- the numbers that the tree of a part has, and those of two
abbrev pub part_room : Part → ℕ
part_room x = tree_size x.piece

abbrev pub parts_room : Parts → ℕ
parts_room x = part_room x.first + part_room x.rest

-- the tree of a part, by a view and the rules, was written; ...
abbrev pub part_tree : View → List Rule → Part → List ℕ
part_tree v rules x = tree_of v rules x.motif x.piece

abbrev pub PartWrote : View → List Rule → Part → ℕ → List ℕ → List ℕ → ℕ → Type 0
PartWrote v rules x at s t r = TreeWrote s t at (part_tree v rules x) r

-- ... those of two were, the second behind the first
abbrev pub PartsWrote : View → List Rule → Parts → ℕ → List ℕ → List ℕ → ℕ → Type 0
PartsWrote v rules x at s t r = TreeWrote s t at (part_tree v rules x.first ++ part_tree v rules x.rest) r
