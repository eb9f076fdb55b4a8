-- The place of 16 is that of the first node that fails: every node before it is right for the motif and the piece that it is due for, and the node itself fails for its own, or is missing.
use Prim.Native.Nat.{ℕ, zero, suc, ◌+◌, ◌-◌, ◌≤◌, ◌<◌}
use mathlib.Core.Path.{◌≡◌, refl, ap}
use mathlib.Core.List.{List, ◌∷◌, ◌++◌, append_assoc}
use mathlib.Core.Logic.{inl, inr, ⊎_elim}
use native.Mathlib.Omega.{arith}
use lib.ListN.{length, length-append}
use lib.Seq.{get_or-append-add}
use Rattle.names.proofs.Tests.{lt-or-le}
use Rattle.books.specs.Contents.{Contents}
use Rattle.books.specs.Picture.{Picture, first, rest}
use Rattle.books.specs.declared.rule.Dir.{Dir}
use Rattle.trees.specs.declared.node.Node.{Node}
use Rattle.trees.specs.Due.{top, of_first, of_rest, RightAt, WrongAt}
use Rattle.trees.specs.Trees.{no_node, Joins, paints, joins_two, TreeOf, leaf, node, FailsAt, missing, here, in_first, in_rest}

module _ (b : Contents) where
  module _ {a : ℕ} {p : Picture} {v : Node} (d : Dir) (l r : ℕ) (u : Joins b a p v d l r) where
    -- a node of the first part, and one of the second
    first-right : {vs : List Node} {i : ℕ} → RightAt b l (first d v.cut p) vs i → RightAt b a p (v ∷ vs) (suc i)
    first-right x = record { motif = x.motif; piece = x.piece; due = of_first d l r u x.due; stands = omega (arith, x.stands); right = x.right }

    rest-right : {xs vs : List Node} {i : ℕ} → TreeOf b l (first d v.cut p) xs → RightAt b r (rest d v.cut p) vs i → RightAt b a p (v ∷ (xs ++ vs)) (suc (length xs + i))
    rest-right {xs} {vs} {i} t x =
        record {
          motif = x.motif;
          piece = x.piece;
          due = of_rest d l r u t x.due;
          stands = omega (arith, x.stands, length-append xs vs);
          right = rw (get_or-append-add xs vs i no_node) x.right;
        }

    -- a node of either, by its place among those of both
    part_right : {xs vs : List Node} → TreeOf b l (first d v.cut p) xs → (j : ℕ) → (j < length xs → RightAt b l (first d v.cut p) (xs ++ vs) j)
        → (length xs ≤ j → RightAt b r (rest d v.cut p) vs (j - length xs)) → RightAt b a p (v ∷ (xs ++ vs)) (suc j)
    part_right {xs} {vs} t j early late =
        ⊎_elim
        (λ (k : j < length xs). first-right (early k))
        (λ (k : length xs ≤ j). let at : length xs + (j - length xs) ≡ j = omega arith in rw at at (rest-right t (late k)))
        (lt-or-le j (length xs))

    own-right : {vs : List Node} → RightAt b a p (v ∷ vs) 0
    own-right = record { motif = a; piece = p; due = top; stands = omega arith; right = joins_two d l r u }

  -- every node of a tree is right, whatever follows
  pub tree-right : {a : ℕ} {p : Picture} {xs : List Node} → TreeOf b a p xs → (more : List Node) (j : ℕ) → j < length xs → RightAt b a p (xs ++ more) j
  tree-right (leaf {a} {p} c u) more zero h = record { motif = a; piece = p; due = top; stands = omega arith; right = paints c u }
  tree-right (leaf c u) more (suc j) h = absurd (omega arith)
  tree-right (node d l r u x y) more zero h = own-right d l r u
  tree-right (node {xs = xs} {ys = ys} d l r u x y) more (suc j) h =
      rw (append_assoc xs ys more)
      (part_right d l r u x j (λ k. tree-right x (ys ++ more) j k) (λ k. tree-right y more (j - length xs) (omega (arith, length-append xs ys))))

  -- every node before the place is right, ...
  pub right-before : {a : ℕ} {p : Picture} {ns : List Node} {i : ℕ} → FailsAt b a p ns i → (j : ℕ) → j < i → RightAt b a p ns j
  right-before missing j h = absurd (omega arith)
  right-before (here f) j h = absurd (omega arith)
  right-before (in_first d l r u x) zero h = own-right d l r u
  right-before (in_first d l r u x) (suc j) h = first-right d l r u (right-before x j (omega arith))
  right-before (in_rest d l r u t x) zero h = own-right d l r u
  right-before (in_rest {xs = xs} {vs} d l r u t x) (suc j) h =
      part_right d l r u t j (λ k. tree-right t vs j k) (λ k. right-before x (j - length xs) (omega arith))

  -- ... and the node at it is not
  pub wrong-there : {a : ℕ} {p : Picture} {ns : List Node} {i : ℕ} → FailsAt b a p ns i → WrongAt b a p ns i
  wrong-there (missing {a} {p}) = record { motif = a; piece = p; due = top; wrong = inl refl }
  wrong-there (here {a} {p} f) = record { motif = a; piece = p; due = top; wrong = inr (omega arith, f) }
  wrong-there (in_first d l r u x) =
      let w = wrong-there x in
      record { motif = w.motif; piece = w.piece; due = of_first d l r u w.due; wrong = ⊎_elim (λ e. inl (ap suc e)) (λ f. inr (omega (arith, f.0), f.1)) w.wrong }
  wrong-there (in_rest {xs = xs} {vs} {i} d l r u t x) =
      let w = wrong-there x in
      let long = length-append xs vs in
      record {
        motif = w.motif;
        piece = w.piece;
        due = of_rest d l r u t w.due;
        wrong = ⊎_elim (λ e. inl (omega arith)) (λ f. inr (omega (arith, f.0), rw (get_or-append-add xs vs i no_node) f.1)) w.wrong;
      }
