-- Trees as rows of nodes: each node, then the nodes of its first part, then those of its second; and the first node of a row that fails.
use Rattle.std.specs.Prelude.{ℕ, suc, ◌+◌, ◌≤◌, ◌<◌, ◌≡◌, List, [], ◌∷◌, ◌++◌, length, get_or}
use Rattle.names.specs.Pick.{fault}
use Rattle.names.specs.Fault.{Fault}
use Rattle.books.specs.Contents.{Contents, Called}
use Rattle.books.specs.Picture.{Picture, joins, size, first, rest}
use Rattle.books.specs.Rules.{no_rule}
use Rattle.books.specs.declared.rule.Dir.{Dir}
use Rattle.books.specs.declared.rule.Rule.{Rule}
use Rattle.books.specs.declared.rule.Body.TheVariants.{Colour}
use Rattle.pieces.specs.Given.{At}
use Rattle.trees.specs.declared.node.Node.{Node}

-- where a row has no node
abbrev pub no_node : Node
no_node = record { rule = 0; cut = 0 }

-- a node is right for motif a on one cell: a colour rule of that motif, with cut 0, and the cell has its colour
pub record Paints (b : Contents) (a : ℕ) (p : Picture) (v : Node) (c : ℕ) : Type 0 where
  pub ruled : At b v.rule a (Colour c)
  pub uncut : v.cut ≡ 0
  pub one_row : p.rows ≡ 1
  pub one_column : p.cols ≡ 1
  pub coloured : Called b c (p.cell 0 0)

-- a node is right for motif a as a join of l and r: its rule joins them to a, and its cut leaves no part empty
pub record Joins (b : Contents) (a : ℕ) (p : Picture) (v : Node) (d : Dir) (l r : ℕ) : Type 0 where
  pub ruled : At b v.rule a (joins d l r)
  pub from_one : 1 ≤ v.cut
  pub inside : v.cut < size d p

-- a node is right for motif a on p
pub data Right (b : Contents) (a : ℕ) (p : Picture) (v : Node) : Type 0 where
  paints : (c : ℕ) → Paints b a p v c → Right b a p v
  joins_two : (d : Dir) (l r : ℕ) → Joins b a p v d l r → Right b a p v

-- the rule that a node names
abbrev pub rule_of : Contents → Node → Rule
rule_of b v = get_or b.rules v.rule no_rule

-- a node fails: its rule is not in the book; its rule's head is another motif; its colour rule stands on a piece larger than one cell, or on a cell of another
-- colour, or with a cut; its join's cut leaves the first part empty, or the second
pub data Fails (b : Contents) (a : ℕ) (p : Picture) (v : Node) : Type 0 where
  no_such_rule : length b.rules ≤ v.rule → Fails b a p v
  other_head : ((rule_of b v).head ≡ a → ⊥) → Fails b a p v
  many_cells : (c : ℕ) → (rule_of b v).body ≡ Colour c → ((p.rows ≡ 1) × (p.cols ≡ 1) → ⊥) → Fails b a p v
  other_colour : (c : ℕ) → (rule_of b v).body ≡ Colour c → (Called b c (p.cell 0 0) → ⊥) → Fails b a p v
  cut_cell : (c : ℕ) → (rule_of b v).body ≡ Colour c → (v.cut ≡ 0 → ⊥) → Fails b a p v
  first_empty : (d : Dir) (l r : ℕ) → (rule_of b v).body ≡ joins d l r → v.cut ≡ 0 → Fails b a p v
  rest_empty : (d : Dir) (l r : ℕ) → (rule_of b v).body ≡ joins d l r → size d p ≤ v.cut → Fails b a p v

-- the rows of nodes that derive p from motif a
pub data TreeOf (b : Contents) : ℕ → Picture → List Node → Type 0 where
  leaf : {a : ℕ} {p : Picture} {v : Node} (c : ℕ) → Paints b a p v c → TreeOf b a p (v ∷ [])
  node : {a : ℕ} {p : Picture} {v : Node} {xs ys : List Node} (d : Dir) (l r : ℕ) → Joins b a p v d l r
      → TreeOf b l (first d v.cut p) xs → TreeOf b r (rest d v.cut p) ys → TreeOf b a p (v ∷ (xs ++ ys))

-- node i of the row is the first that fails, or that is missing: it fails for its motif and its piece, and every node before it is right for its own
pub data FailsAt (b : Contents) : ℕ → Picture → List Node → ℕ → Type 0 where
  missing : {a : ℕ} {p : Picture} → FailsAt b a p [] 0
  here : {a : ℕ} {p : Picture} {v : Node} {vs : List Node} → Fails b a p v → FailsAt b a p (v ∷ vs) 0
  in_first : {a : ℕ} {p : Picture} {v : Node} {vs : List Node} {i : ℕ} (d : Dir) (l r : ℕ) → Joins b a p v d l r
      → FailsAt b l (first d v.cut p) vs i → FailsAt b a p (v ∷ vs) (suc i)
  in_rest : {a : ℕ} {p : Picture} {v : Node} {xs vs : List Node} {i : ℕ} (d : Dir) (l r : ℕ) → Joins b a p v d l r
      → TreeOf b l (first d v.cut p) xs → FailsAt b r (rest d v.cut p) vs i → FailsAt b a p (v ∷ (xs ++ vs)) (suc (length xs + i))

-- how a row can end: it is a tree; or 16 at the first node that fails; or 16 at the number of nodes read, with nodes left over
pub data Ends (b : Contents) (p : Picture) : List Node → Fault → Type 0 where
  a_tree : {ns : List Node} → TreeOf b b.start p ns → Ends b p ns (fault 0 0)
  fails : {ns : List Node} {i : ℕ} → FailsAt b b.start p ns i → Ends b p ns (fault 16 i)
  left_over : {xs : List Node} (v : Node) (vs : List Node) → TreeOf b b.start p xs → Ends b p (xs ++ (v ∷ vs)) (fault 16 (length xs))

-- the numbers of a tree, two for each node, read as nodes
unfoldable pub nodes_of : List ℕ → List Node
nodes_of [] = []
nodes_of (i ∷ []) = []
nodes_of (i ∷ k ∷ xs) = record { rule = i; cut = k } ∷ nodes_of xs
