-- Where a rule fits at every node, the tree of a piece is its node and the trees of its two parts, since a part's area is smaller. What holds of a leaf, and
-- of a node where it holds of its parts, holds of the tree: so it has 2mn - 1 nodes of two numbers each, and its numbers are small.
use Prim.Native.Nat.{ℕ, zero, suc, ◌+◌, ◌≤◌, ◌<◌}
use mathlib.Core.Path.{◌≡◌, refl, ◌∙◌, ap₂}
use mathlib.Core.List.{List, [], ◌∷◌, ◌++◌}
use native.Mathlib.Omega.{arith}
use lib.ListN.{length, length-append}
use Rattle.books.specs.declared.rule.Rule.{Rule}
use Rattle.pieces.specs.declared.piece.Piece.{Piece}
use Rattle.books.specs.declared.rule.Dir.{Dir}
use Rattle.pieces.specs.declared.choice.Choice.{Choice}
use Rattle.pieces.specs.declared.choice.Choice.TheVariants.{Leaf, Join}
use Rattle.pieces.specs.Pieces.{Inside}
use Rattle.pieces.specs.Area.{area, tree_size}
use Rattle.pieces.specs.Parts.{reach, first_part, rest_part}
use Rattle.pieces.specs.View.{View}
use Rattle.pieces.specs.Choice.{choose}
use Rattle.pieces.specs.Tree.{node_tree, tree_within, tree_of}
use Rattle.pieces.specs.inner.Fitted.{own, in_first, in_rest, Fitted}
use Rattle.pieces.proofs.Cutting.{reach-small, area-pos, parts-area}
use Rattle.pieces.proofs.PartsOfPieces.{first-inside, rest-inside}
use Rattle.pieces.proofs.Choosing.{Right, cell-fits, choose-right}

-- The parts of a cut are pieces of smaller area.
pub record Parts (m n : ℕ) (d : Dir) (k : ℕ) (q : Piece) : Type 0 where
  pub first_in : Inside m n (first_part d k q)
  pub rest_in : Inside m n (rest_part d k q)
  pub first_some : 1 ≤ area (first_part d k q)
  pub rest_some : 1 ≤ area (rest_part d k q)
  pub areas : area (first_part d k q) + area (rest_part d k q) ≡ area q

pub parts : (m n : ℕ) (q : Piece) → Inside m n q → (d : Dir) (k : ℕ) → 1 ≤ k → k < reach d q → Parts m n d k q
parts m n q i d k h g =
    let f : Inside m n (first_part d k q) = first-inside d k i h (omega arith) in
    let b : Inside m n (rest_part d k q) = rest-inside d k i g in
    record {
      first_in = f;
      rest_in = b;
      first_some = area-pos m n (first_part d k q) f;
      rest_some = area-pos m n (rest_part d k q) b;
      areas = parts-area d k q (omega arith);
    }

-- A choice that was made where a rule fits at every node is right, and a rule fits at every node of its parts.
abbrev FittedParts : View → List Rule → Piece → Choice → Type 0
FittedParts v rules q (Leaf i) = Unit {0}
FittedParts v rules q (Join i d k l r) = Fitted v rules l (first_part d k q) × Fitted v rules r (rest_part d k q)

pub fitted-parts : (v : View) (rules : List Rule) (a : ℕ) (q : Piece) → Fitted v rules a q → (o : Choice) → choose v rules a q ≡ o → FittedParts v rules q o
fitted-parts v rules a q f (Leaf i) e = tt
fitted-parts v rules a q f (Join i d k l r) e = (
  record { at_each = λ n. f.at_each (in_first i d k l r e n) },
  record { at_each = λ n. f.at_each (in_rest i d k l r e n) },
)

pub fitted-right : (v : View) (rules : List Rule) (a : ℕ) (q : Piece) → Fitted v rules a q → Right v rules a q (choose v rules a q)
fitted-right v rules a q f = choose-right v rules a q (f.at_each own)

module _ (v : View) (rules : List Rule) (m n : ℕ) where
  -- Two ways of writing parts that agree on pieces of smaller area give the same node.
  node-same : (s t : ℕ → Piece → List ℕ) (a : ℕ) (q : Piece) → Inside m n q
      → ((x : ℕ) (y : Piece) → Inside m n y → area y < area q → Fitted v rules x y → s x y ≡ t x y)
      → (o : Choice) → Right v rules a q o → FittedParts v rules q o → node_tree s q o ≡ node_tree t q o
  node-same s t a q i e (Leaf r) w f = refl
  node-same s t a q i e (Join j d k l r) w f =
      let p : Parts m n d k q = parts m n q i d k w.1.from_one w.1.inside in
      ap₂ (λ (x y : List ℕ). j ∷ k ∷ (x ++ y))
      (e l (first_part d k q) p.first_in (omega (arith, p.areas, p.rest_some)) f.0)
      (e r (rest_part d k q) p.rest_in (omega (arith, p.areas, p.first_some)) f.1)

  -- The area is depth enough.
  enough : (f g : ℕ) (a : ℕ) (q : Piece) → Inside m n q → area q ≤ f → area q ≤ g → Fitted v rules a q → tree_within f v rules a q ≡ tree_within g v rules a q
  unfolding tree_within
  enough zero g a q i h h' w = absurd (omega (arith, area-pos m n q i))
  enough (suc f) zero a q i h h' w = absurd (omega (arith, area-pos m n q i))
  enough (suc f) (suc g) a q i h h' w =
      node-same (λ x y. tree_within f v rules x y) (λ x y. tree_within g v rules x y) a q i
      (λ x y iy less z. enough f g x y iy (omega arith) (omega arith) z)
      (choose v rules a q) (fitted-right v rules a q w) (fitted-parts v rules a q w _ refl)

  pub tree-step : (a : ℕ) (q : Piece) → Inside m n q → Fitted v rules a q
      → tree_of v rules a q ≡ node_tree (λ x y. tree_of v rules x y) q (choose v rules a q)
  unfolding tree_of tree_within
  tree-step a q i w =
      let h : 1 ≤ area q = area-pos m n q i in
      enough (area q) (suc (area q)) a q i (omega arith) (omega arith) w
      ∙ node-same (λ x y. tree_within (area q) v rules x y) (λ x y. tree_within (area y) v rules x y) a q i
      (λ x y iy less z. enough (area q) (area y) x y iy (omega arith) (omega arith) z)
      (choose v rules a q) (fitted-right v rules a q w) (fitted-parts v rules a q w _ refl)

module _ (v : View) (rules : List Rule) (m n : ℕ) (P : Piece → List ℕ → Type 0)
    (leaf : (q : Piece) (i : ℕ) → q.height ≡ 1 → q.width ≡ 1 → i < length rules → P q (i ∷ 0 ∷ []))
    (node : (q : Piece) (d : Dir) (i k : ℕ) (xs ys : List ℕ) → Inside m n q → 1 ≤ k → k < reach d q → i < length rules
    → P (first_part d k q) xs → P (rest_part d k q) ys → P q (i ∷ k ∷ (xs ++ ys))) where
  within-each : (f : ℕ) (a : ℕ) (q : Piece) → Inside m n q → area q ≤ f → Fitted v rules a q → P q (tree_within f v rules a q)
  unfolding tree_within
  within-each zero a q i h w = absurd (omega (arith, area-pos m n q i))
  within-each (suc f) a q i h w =
      go (choose v rules a q) (fitted-right v rules a q w) (fitted-parts v rules a q w _ refl) (λ x y. within-each f x y)
    where
      go : (o : Choice) → Right v rules a q o → FittedParts v rules q o
          → ((x : ℕ) (y : Piece) → Inside m n y → area y ≤ f → Fitted v rules x y → P y (tree_within f v rules x y))
          → P q (node_tree (λ x y. tree_within f v rules x y) q o)
      go (Leaf j) r z e = let (one, alone, _) = cell-fits v q r.0 r.1.fitting in leaf q j one alone r.1.below
      go (Join j d k l r) u z e =
          let p : Parts m n d k q = parts m n q i d k u.1.from_one u.1.inside in
          node q d j k (tree_within f v rules l (first_part d k q)) (tree_within f v rules r (rest_part d k q)) i u.1.from_one u.1.inside u.0.below
          (e l (first_part d k q) p.first_in (omega (arith, p.areas, p.rest_some)) z.0)
          (e r (rest_part d k q) p.rest_in (omega (arith, p.areas, p.first_some)) z.1)

  tree-each : (a : ℕ) (q : Piece) → Inside m n q → Fitted v rules a q → P q (tree_of v rules a q)
  unfolding tree_of
  tree-each a q i w = within-each (area q) a q i (omega arith) w

-- 2mn - 1 nodes of two numbers each
pub parts-room : (m n : ℕ) (d : Dir) (k : ℕ) (q : Piece) → Parts m n d k q → tree_size q ≡ 2 + (tree_size (first_part d k q) + tree_size (rest_part d k q))
parts-room m n d k q p = omega (arith, p.areas, p.first_some, p.rest_some)

pub tree-length : (v : View) (rules : List Rule) (m n : ℕ) (a : ℕ) (q : Piece) → Inside m n q → Fitted v rules a q → length (tree_of v rules a q) ≡ tree_size q
tree-length v rules m n =
    tree-each v rules m n (λ q xs. length xs ≡ tree_size q)
    (λ q i h w less. rw (h, w))
    (λ q d i k xs ys inq h g less x y. omega (arith, length-append xs ys, parts-room m n d k q (parts m n q inq d k h g)))

-- every number is below a bound that the rules' count and the sheet's rows and columns keep
abbrev pub Small : ℕ → List ℕ → Type 0
Small top [] = Unit {0}
Small top (x ∷ xs) = (x < top) × Small top xs

small-append : (top : ℕ) (xs ys : List ℕ) → Small top xs → Small top ys → Small top (xs ++ ys)
small-append top [] ys u w = w
small-append top (x ∷ xs) ys u w = (u.0, small-append top xs ys u.1 w)

pub tree-small : (v : View) (rules : List Rule) (m n top : ℕ) → length rules ≤ top → m ≤ top → n ≤ top → 1 ≤ top → (a : ℕ) (q : Piece) → Inside m n q
    → Fitted v rules a q → Small top (tree_of v rules a q)
tree-small v rules m n top hr hm hn ht =
    tree-each v rules m n (λ q. Small top)
    (λ q i h w less. (omega arith, (ht, tt)))
    (λ q d i k xs ys inq h g less x y. (omega arith, (omega (arith, reach-small m n q inq d top hm hn), small-append top xs ys x y)))
