-- What the choice at a piece means for the node that is written there: its numbers are small, its parts are pieces with room of their own, and
-- the tree is that node with their trees.
use Prim.Native.Nat.{ℕ, ◌+◌, ◌≤◌, ◌<◌}
use mathlib.Core.Path.{◌≡◌, sym, ◌∙◌, ap}
use mathlib.Core.List.{List}
use native.Mathlib.Omega.{arith}
use lib.ListN.{length}
use Rattle.books.specs.declared.rule.Rule.{Rule}
use Rattle.pieces.specs.declared.piece.Piece.{Piece}
use Rattle.books.specs.declared.size.Size.{Size}
use Rattle.books.specs.declared.rule.Dir.{Dir}
use Rattle.pieces.specs.declared.choice.Choice.{Choice}
use Rattle.pieces.specs.declared.choice.Choice.TheVariants.{Leaf, Join}
use Rattle.pieces.specs.Pieces.{Inside}
use Rattle.pieces.specs.Area.{tree_size}
use Rattle.pieces.specs.Parts.{reach}
use Rattle.pieces.specs.Most.{most}
use Rattle.pieces.specs.declared.part.Part.{Part}
use Rattle.pieces.specs.declared.part.Parts.{Parts as PartsOfJoin}
use Rattle.pieces.specs.inner.Due.{TreeDue, PartsDue}
use Rattle.pieces.specs.inner.PartsOf.{parts_of}
use Rattle.pieces.specs.View.{View}
use Rattle.books.specs.Keeps.{most_rules}
use Rattle.books.specs.Size.{Within}
use Rattle.pieces.specs.inner.TreeWrote.{part_room}
use Rattle.pieces.specs.Choice.{choose}
use Rattle.pieces.specs.Tree.{node_tree, tree_of}
use Rattle.pieces.proofs.Cutting.{reach-small, area-pos}
use Rattle.pieces.proofs.Choosing.{Right}
use Rattle.pieces.proofs.TreeSteps.{Parts, parts, parts-room, fitted-parts, fitted-right, tree-step}

pub room-some : (m n : ℕ) (q : Piece) → Inside m n q → 2 ≤ tree_size q
room-some m n q i = omega (arith, area-pos m n q i)

-- ── At a piece: a choice was made, and at every node of its tree a rule fits ──

module _ {s : Size} {v : View} {rules : List Rule} {x : Part} {at : ℕ} {tree : List ℕ} (sizes : Within most s.rows s.cols) (few : length rules ≤ most_rules)
    (due : TreeDue s v rules x at tree) {o : Choice} (choice : o ≡ choose v rules x.motif x.piece) where
  right : (y : Choice) → o ≡ y → Right v rules x.motif x.piece y
  right y f = rw (← f, choice) (fitted-right v rules x.motif x.piece due.fitted)

  pub leaf-small : (i : ℕ) → o ≡ Leaf i → i < 65536
  leaf-small i f = omega (arith, few, (right (Leaf i) f).1.below)

  module _ (i : ℕ) (d : Dir) (k l r : ℕ) (f : o ≡ Join i d k l r) where
    pub rule-small : i < 65536
    rule-small = omega (arith, few, (right (Join i d k l r) f).0.below)

    pub cut_inside : k < reach d x.piece
    cut_inside = (right (Join i d k l r) f).1.inside

    pub cut_small : k < 65536
    cut_small =
        omega (arith, cut_inside, reach-small s.rows s.cols x.piece due.on d most sizes.rows_few sizes.cols_few)

    pub of_parts : Parts s.rows s.cols d k x.piece
    of_parts = parts s.rows s.cols x.piece due.on d k (right (Join i d k l r) f).1.from_one cut_inside

    -- the parts are due behind the node
    pub parts-due : {next : ℕ} {t : List ℕ} → next ≡ at + 2 → length t ≡ length tree → PartsDue s v rules (parts_of d k l r x.piece) next t
    parts-due e long =
        let (first_fitted, rest_fitted) = fitted-parts v rules x.motif x.piece due.fitted (Join i d k l r) (sym choice ∙ f) in
        record {
          first_on = of_parts.first_in;
          rest_on = of_parts.rest_in;
          room = omega (arith, due.room, parts-room s.rows s.cols d k x.piece of_parts);
          first_fitted = first_fitted;
          rest_fitted = rest_fitted;
        }

  -- the tree is the node that the choice makes
  pub tree_of_lem : (y : Choice) → o ≡ y
      → tree_of v rules x.motif x.piece ≡ node_tree (λ a q. tree_of v rules a q) x.piece y
  tree_of_lem y f =
      tree-step v rules s.rows s.cols x.motif x.piece due.on due.fitted
      ∙ ap (node_tree (λ a q. tree_of v rules a q) x.piece) (sym choice ∙ f)

-- ── At two parts: the first is due where they are, and the rest behind it ──

module _ {s : Size} {v : View} {rules : List Rule} {x : PartsOfJoin} {at : ℕ} {tree : List ℕ} (due : PartsDue s v rules x at tree) where
  pub first-due : TreeDue s v rules x.first at tree
  first-due = record { on = due.first_on; room = omega (arith, due.room); fitted = due.first_fitted }

  pub rest-due : {next : ℕ} {t : List ℕ} → next ≡ at + part_room x.first → length t ≡ length tree → TreeDue s v rules x.rest next t
  rest-due e long = record { on = due.rest_on; room = omega (arith, due.room); fitted = due.rest_fitted }
