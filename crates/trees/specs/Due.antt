-- The motif and the piece that a node of a row is due for, as the nodes before it ask.
use Rattle.std.specs.Prelude.{ℕ, suc, ◌+◌, ◌<◌, ◌≡◌, List, ◌∷◌, ◌++◌, ◌⊎◌, length, get_or}
use Rattle.books.specs.Contents.{Contents}
use Rattle.books.specs.Picture.{Picture, first, rest}
use Rattle.books.specs.declared.rule.Dir.{Dir}
use Rattle.trees.specs.declared.node.Node.{Node}
use Rattle.trees.specs.Trees.{no_node, Joins, Right, Fails, TreeOf}

-- node i of a row that is held to motif a on p is due for motif c on q
pub data Due (b : Contents) : ℕ → Picture → List Node → ℕ → ℕ → Picture → Type 0 where
  top : {a : ℕ} {p : Picture} {ns : List Node} → Due b a p ns 0 a p
  of_first : {a c : ℕ} {p q : Picture} {v : Node} {vs : List Node} {i : ℕ} (d : Dir) (l r : ℕ) → Joins b a p v d l r
      → Due b l (first d v.cut p) vs i c q → Due b a p (v ∷ vs) (suc i) c q
  of_rest : {a c : ℕ} {p q : Picture} {v : Node} {xs vs : List Node} {i : ℕ} (d : Dir) (l r : ℕ) → Joins b a p v d l r
      → TreeOf b l (first d v.cut p) xs → Due b r (rest d v.cut p) vs i c q → Due b a p (v ∷ (xs ++ vs)) (suc (length xs + i)) c q

-- node i stands in the row, and is right for what it is due for
pub record RightAt (b : Contents) (a : ℕ) (p : Picture) (ns : List Node) (i : ℕ) : Type 0 where
  pub motif : ℕ
  pub piece : Picture
  pub due : Due b a p ns i motif piece
  pub stands : i < length ns
  pub right : Right b motif piece (get_or ns i no_node)

-- node i is due, and fails for what it is due for, or is missing
pub record WrongAt (b : Contents) (a : ℕ) (p : Picture) (ns : List Node) (i : ℕ) : Type 0 where
  pub motif : ℕ
  pub piece : Picture
  pub due : Due b a p ns i motif piece
  pub wrong : (i ≡ length ns) ⊎ ((i < length ns) × Fails b motif piece (get_or ns i no_node))
