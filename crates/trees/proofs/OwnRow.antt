-- The tree that a derivation writes, read as nodes, is accepted: where `derive` answers 0, the numbers in its tree slice are the derivation given, and that is a tree.
use Prim.Native.Nat.{ℕ, ◌%◌, ◌^◌}
use mathlib.Core.Path.{◌≡◌, ap, ◌∙◌}
use mathlib.Core.List.{List}
use lib.ListN.{length, take, drop}
use lib.Seq.{take_at}
use Rattle.books.specs.Answer.{plain, packed}
use Rattle.books.specs.Derives.{Member}
use Rattle.books.specs.Lent.{contents_of, picture_of, Accepted}
use Rattle.books.specs.declared.answer.Answer.{Answer}
use Rattle.pieces.specs.Derivation.{derivation, numbers_needed, Roomy, Leaves, LeavesPacked}
use Rattle.pieces.specs.declared.derive.Derived.{Derived}
use Rattle.pieces.proofs.Demand2.{derived-accepted}
use Rattle.pieces.proofs.Demand2Numbers.{derive-numbers, dv_derive-numbers}
use Rattle.pieces.proofs.TheTree.{given-length}
use Rattle.trees.specs.declared.node.Node.{Node}
use Rattle.trees.specs.Trees.{nodes_of, a_tree}
use Rattle.trees.specs.Outcome.{tree_answer}
use Rattle.trees.proofs.Endings.{answered}
use Rattle.trees.proofs.OwnTree.{given-tree}

module _ (press : ℕ) (book sheet work tree work_left tree_left : List ℕ) where
  -- the nodes that stand in the tree slice
  abbrev pub written : List Node
  written = nodes_of (take (numbers_needed (picture_of press sheet)) tree_left)

  own_row : Accepted press book sheet → Roomy (picture_of press sheet) work tree → Member (contents_of book) (picture_of press sheet) → tree_left ≡ (derivation press book sheet work tree).numbers
      → tree_answer press book sheet written ≡ plain 0
  own_row fine room member leaves =
      let b = contents_of book in
      let p = picture_of press sheet in
      let given = derived-accepted press book sheet work tree fine room member in
      let numbers : take (numbers_needed p) tree_left ≡ given.nodes =
      ap (take (numbers_needed p)) (leaves ∙ given.written)
      ∙ take_at given.nodes (drop (length given.nodes) tree) (numbers_needed p) (given-length b b.start p given.nodes given.given) in
      ap (λ (xs : List ℕ). tree_answer press book sheet (nodes_of xs)) numbers ∙ answered press book sheet (nodes_of given.nodes) fine (a_tree (given-tree given.given))

  -- ── The theorems ──

  pub own-tree-accepted : {r : Derived} → Leaves (derivation press book sheet work tree) r work_left tree_left → r.answer.number ≡ 0
      → (q : Answer) → q ≡ tree_answer press book sheet written → q ≡ plain 0
  own-tree-accepted left zero q e =
      let (fine, room, member) = (derive-numbers press book sheet work tree left).zero.0 zero in
      e ∙ own_row fine room member left.leaves_tree

  pub dv-own-tree-accepted : {r : ℕ} → LeavesPacked (derivation press book sheet work tree) r work_left tree_left → r % 2 ^ 8 ≡ 0
      → (q : ℕ) → q ≡ packed (tree_answer press book sheet written) 0 → q ≡ 0
  dv-own-tree-accepted left zero q e =
      let (fine, room, member) = (dv_derive-numbers press book sheet work tree left).zero.0 zero in
      e ∙ ap (λ (x : Answer). packed x 0) (own_row fine room member left.leaves_tree)
