-- A tree of m by n cells has 2mn - 1 nodes, and a node that fails is one of the first 2mn - 1, so that nodes beyond the first 2mn change nothing.
use Prim.Native.Nat.{ℕ, ◌+◌, ◌-◌, ◌*◌, ◌≤◌, ◌<◌}
use mathlib.Core.Path.{◌≡◌, sym, ap, ap₂, ◌∙◌}
use mathlib.Core.List.{List, ◌∷◌, ◌++◌, append_assoc}
use native.Mathlib.Nat.{mul-add, add-mul, mul-le-mul}
use native.Mathlib.Omega.{arith}
use lib.ListN.{length, length-append}
use Rattle.names.specs.Fault.{Fault}
use Rattle.books.specs.Contents.{Contents}
use Rattle.books.specs.Picture.{Picture, size, first, rest}
use Rattle.books.specs.declared.rule.Dir.{Dir}
use Rattle.books.specs.declared.rule.Dir.TheVariants.{Across as across, Down as down}
use Rattle.trees.specs.declared.node.Node.{Node}
use Rattle.trees.specs.Trees.{TreeOf, leaf, node, FailsAt, missing, here, in_first, in_rest, Ends, a_tree, fails, left_over}
use Rattle.trees.specs.Judge.{checked}
use Rattle.trees.proofs.Theorems.{ends, ends-checked}

-- the cells of a picture; its parts have them between them
abbrev pub cells : Picture → ℕ
cells p = p.rows * p.cols

parts-cells : (d : Dir) (k : ℕ) (p : Picture) → k < size d p → cells (first d k p) + cells (rest d k p) ≡ cells p
parts-cells across k p h = sym (mul-add p.rows k (p.cols - k)) ∙ ap (λ (x : ℕ). p.rows * x) (omega arith)
parts-cells down k p h = sym (add-mul k (p.rows - k) p.cols) ∙ ap (λ (x : ℕ). x * p.cols) (omega arith)

-- some rows and columns, and so some cells
pub record Some (p : Picture) : Type 0 where
  pub tall : 1 ≤ p.rows
  pub wide : 1 ≤ p.cols

some-cells : (p : Picture) → Some p → 1 ≤ cells p
some-cells p s = mul-le-mul s.tall s.wide

first_some : (d : Dir) (k : ℕ) (p : Picture) → Some p → 1 ≤ k → Some (first d k p)
first_some across k p s h = record { tall = s.tall; wide = h }
first_some down k p s h = record { tall = h; wide = s.wide }

rest_some : (d : Dir) (k : ℕ) (p : Picture) → Some p → k < size d p → Some (rest d k p)
rest_some across k p s h = record { tall = s.tall; wide = omega arith }
rest_some down k p s h = record { tall = omega arith; wide = s.wide }

-- The number of nodes.
pub tree-count : {b : Contents} {a : ℕ} {p : Picture} {ns : List Node} → TreeOf b a p ns → length ns + 1 ≡ 2 * cells p
tree-count (leaf c u) = sym (ap (λ (x : ℕ). 2 * x) (ap₂ (λ (x y : ℕ). x * y) u.one_row u.one_column))
tree-count (node {p = p} {v = v} {xs = xs} {ys = ys} d l r u x y) =
    omega (arith, length-append xs ys, tree-count x, tree-count y, parts-cells d v.cut p u.inside)

pub fails-count : {b : Contents} {a : ℕ} {p : Picture} {ns : List Node} {i : ℕ} → FailsAt b a p ns i → Some p → i + 2 ≤ 2 * cells p
fails-count (missing {p = p}) s = omega (arith, some-cells p s)
fails-count (here {p = p} u) s = omega (arith, some-cells p s)
fails-count (in_first {p = p} {v = v} d l r u x) s =
    omega (arith, fails-count x (first_some d v.cut p s u.from_one), some-cells _ (rest_some d v.cut p s u.inside), parts-cells d v.cut p u.inside)
fails-count (in_rest {p = p} {v = v} d l r u x y) s =
    omega (arith, tree-count x, fails-count y (rest_some d v.cut p s u.inside), parts-cells d v.cut p u.inside)

-- What follows the node that fails changes nothing.
fails-before : {b : Contents} {a : ℕ} {p : Picture} {ns : List Node} {i : ℕ} → FailsAt b a p ns i → i < length ns → (more : List Node) → FailsAt b a p (ns ++ more) i
fails-before missing h more = absurd (omega arith)
fails-before (here u) h more = here u
fails-before (in_first d l r u x) h more = in_first d l r u (fails-before x (omega arith) more)
fails-before (in_rest {v = v} {xs = xs} {vs = vs} d l r u x y) h more =
    rw (append_assoc xs vs more) (in_rest d l r u x (fails-before y (omega (arith, length-append xs vs)) more))

module _ (b : Contents) (p : Picture) (some : Some p) where
  ends-before : {ns : List Node} {f : Fault} → Ends b p ns f → 2 * cells p ≤ length ns → (more : List Node) → Ends b p (ns ++ more) f
  ends-before (a_tree t) h more = absurd (omega (arith, tree-count t))
  ends-before (fails x) h more = fails (fails-before x (omega (arith, fails-count x some)) more)
  ends-before (left_over {xs} v vs t) h more = rw (append_assoc xs (v ∷ vs) more) (left_over v (vs ++ more) t)

  pub far-nodes : (ns more : List Node) → 2 * cells p ≤ length ns → checked b p (ns ++ more) ≡ checked b p ns
  far-nodes ns more h = ends-checked b p (ends-before (ends b p ns) h more)
