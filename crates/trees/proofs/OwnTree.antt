-- The derivation given is a tree, so that some row of nodes is accepted exactly where the family has the picture.
use Prim.Native.Nat.{ℕ}
use mathlib.Core.Path.{◌≡◌, refl, sym, ap, ◌∙◌}
use mathlib.Core.List.{List, ◌∷◌, ◌++◌, append_assoc}
use mathlib.Core.Logic.{◌↔◌}
use Rattle.books.specs.Contents.{Contents}
use Rattle.books.specs.Picture.{Picture}
use Rattle.books.specs.Derives.{Derives, paint, join, Member}
use Rattle.books.specs.declared.rule.Body.TheVariants.{Colour}
use Rattle.books.specs.Picture.{joins}
use Rattle.pieces.specs.Given.{Given, leaf as given_leaf, node as given_node}
use Rattle.pieces.specs.Tree.{tree}
use Rattle.pieces.proofs.Giving.{at_has}
use Rattle.pieces.proofs.TheTree.{given-exists, tree-given}
use Rattle.trees.specs.declared.node.Node.{Node}
use Rattle.trees.specs.Trees.{TreeOf, leaf, node, nodes_of}
use Rattle.trees.specs.Judge.{checked}
use Rattle.trees.proofs.Theorems.{accepted}

module _ {b : Contents} where
  -- The numbers of a part are even in number, so that nodes are read part by part.
  nodes-append : {a : ℕ} {p : Picture} {xs : List ℕ} → Given b a p xs → (ys : List ℕ) → nodes_of (xs ++ ys) ≡ nodes_of xs ++ nodes_of ys
  unfolding nodes_of
  nodes-append (given_leaf i c u able low) ys = refl
  nodes-append (given_node {xs = xs} {ys = zs} d i l r k u w low least x y) ys =
      let tail : nodes_of ((xs ++ zs) ++ ys) ≡ nodes_of (xs ++ zs) ++ nodes_of ys =
      ap nodes_of (append_assoc xs zs ys) ∙ nodes-append x (zs ++ ys) ∙ ap (λ (ns : List Node). nodes_of xs ++ ns) (nodes-append y ys)
      ∙ sym (append_assoc (nodes_of xs) (nodes_of zs) (nodes_of ys)) ∙ ap (λ (ns : List Node). ns ++ nodes_of ys) (sym (nodes-append x zs)) in
      ap (λ (ns : List Node). record { rule = i; cut = k } ∷ ns) tail

  -- The derivation given is a tree, ...
  pub given-tree : {a : ℕ} {p : Picture} {xs : List ℕ} → Given b a p xs → TreeOf b a p (nodes_of xs)
  unfolding nodes_of
  given-tree (given_leaf i c u (r, k, n) low) = leaf c (record { ruled = u; uncut = refl; one_row = r; one_column = k; coloured = n })
  given-tree (given_node {xs = xs} {ys = ys} d i l r k u w low least x y) =
      rw (nodes-append x ys) (node d l r (record { ruled = u; from_one = w.from_one; inside = w.inside }) (given-tree x) (given-tree y))

  -- ... and a tree is a derivation.
  pub tree-derives : {a : ℕ} {p : Picture} {ns : List Node} → TreeOf b a p ns → Derives b a p
  tree-derives (leaf {a} {p} {v} c u) = paint c (at_has b v.rule a (Colour c) u.ruled) u.one_row u.one_column u.coloured
  tree-derives (node {a} {p} {v} d l r u x y) =
      join d l r v.cut (at_has b v.rule a (joins d l r) u.ruled) u.from_one u.inside (tree-derives x) (tree-derives y)

module _ (b : Contents) (p : Picture) where
  pub some-tree : (a : ℕ) → ((ns : List Node) × TreeOf b a p ns) ↔ Derives b a p
  some-tree a = (λ t. tree-derives t.1, λ x. let (xs, g) = (given-exists b a p).1 x in (nodes_of xs, given-tree g))

  pub some-accepted : ((ns : List Node) × ((checked b p ns).number ≡ 0)) ↔ Member b p
  some-accepted = (
    λ t. tree-derives ((accepted b p t.0).0 t.1),
    λ x. let (ns, t) = (some-tree b.start).1 x in (ns, (accepted b p ns).1 t),
  )

  -- The tree that a derivation writes is accepted.
  pub own-accepted : Member b p → (checked b p (nodes_of (tree b p))).number ≡ 0
  own-accepted x = (accepted b p (nodes_of (tree b p))).1 (given-tree (tree-given b p x))
