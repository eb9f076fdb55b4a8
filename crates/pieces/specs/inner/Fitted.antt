-- At every node of the tree of a piece a rule with its motif for head fits: what the tree writer asks for.
use Rattle.std.specs.Prelude.{ℕ, ◌≡◌, List}
use Rattle.books.specs.declared.rule.Rule.{Rule}
use Rattle.pieces.specs.declared.piece.Piece.{Piece}
use Rattle.pieces.specs.declared.part.Part.{Part}
use Rattle.books.specs.declared.rule.Dir.{Dir}
use Rattle.pieces.specs.declared.choice.Choice.TheVariants.{Join}
use Rattle.pieces.specs.Parts.{first_part, rest_part}
use Rattle.pieces.specs.View.{View}
use Rattle.pieces.specs.Choice.{choose}
use Rattle.pieces.specs.Suiting.{SomeFits}

-- the nodes of the tree of a at q, each a motif x at a piece y: its own, and those of the two parts of the join that is taken
pub data NodeOf (v : View) (rules : List Rule) : ℕ → Piece → ℕ → Piece → Type 0 where
  own : {a : ℕ} {q : Piece} → NodeOf v rules a q a q
  in_first : {a x : ℕ} {q y : Piece} (i : ℕ) (d : Dir) (k l r : ℕ) → choose v rules a q ≡ Join i d k l r
      → NodeOf v rules l (first_part d k q) x y → NodeOf v rules a q x y
  in_rest : {a x : ℕ} {q y : Piece} (i : ℕ) (d : Dir) (k l r : ℕ) → choose v rules a q ≡ Join i d k l r
      → NodeOf v rules r (rest_part d k q) x y → NodeOf v rules a q x y

pub record Fitted (v : View) (rules : List Rule) (a : ℕ) (q : Piece) : Type 0 where
  pub at_each : {x : ℕ} {y : Piece} → NodeOf v rules a q x y → SomeFits v rules x y

abbrev pub PartFitted : View → List Rule → Part → Type 0
PartFitted v rules x = Fitted v rules x.motif x.piece
