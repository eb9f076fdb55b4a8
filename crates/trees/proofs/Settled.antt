-- Two answers that a call's contract allows are equal: both are that of the lent bytes and nodes.
use Prim.Native.Nat.{ℕ}
use mathlib.Core.List.{List}
use Rattle.names.proofs.Settled.{Settles, settles}
use Rattle.books.specs.Answer.{packed}
use Rattle.trees.specs.declared.node.Node.{Node}
use Rattle.trees.specs.Outcome.{tree_answer}

pub check_tree-settled : (press : ℕ) (book sheet : List ℕ) (nodes : List Node) → Settles (tree_answer press book sheet nodes)
check_tree-settled press book sheet nodes = settles _

pub dv_check_tree-settled : (press : ℕ) (book sheet : List ℕ) (nodes : List Node) → Settles (packed (tree_answer press book sheet nodes) 0)
dv_check_tree-settled press book sheet nodes = settles _
