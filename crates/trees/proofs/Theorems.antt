-- What judging a row of nodes means: it ends in one way, as told, and with 0 exactly for the trees of the picture.
use Prim.Native.Nat.{ℕ, ◌+◌}
use mathlib.Core.Path.{◌≡◌, sym, ap, ◌∙◌}
use mathlib.Core.List.{List, [], ◌∷◌, ◌++◌, append-nil}
use mathlib.Core.Logic.{◌↔◌}
use native.Mathlib.Omega.{arith}
use lib.ListN.{length}
use Rattle.names.specs.Fault.{Fault}
use Rattle.books.specs.Contents.{Contents}
use Rattle.books.specs.Picture.{Picture}
use Rattle.books.specs.Decide.{pictures}
use Rattle.books.proofs.Deciding.{pictures-lessen}
use Rattle.trees.specs.declared.node.Node.{Node}
use Rattle.trees.specs.Trees.{TreeOf, FailsAt, Ends, a_tree, fails, left_over}
use Rattle.trees.specs.Judge.{Judged, past, failed, judge, ended, checked}
use Rattle.trees.proofs.Rows.{Says, says, row-passed, stops-failed}
use Rattle.trees.proofs.Pictured.{tree-row, row-tree, fails-stops, stops-fails}

-- Judging from a place: a tree is passed with whatever is left, and a row fails at its first node that does.
module _ (b : Contents) where
  abbrev bulk : Picture → ℕ
  bulk q = q.rows + q.cols

  module _ {a : ℕ} {p : Picture} where
    pub tree-passed : {xs : List Node} → TreeOf b a p xs → (left : List Node) (at : ℕ) → judge b a p (xs ++ left) at ≡ past (at + length xs) left
    unfolding judge
    tree-passed t left at = row-passed (pictures b) b.rules bulk (pictures-lessen b) (tree-row b t) (bulk p) (omega arith) left at

    pub fails-failed : {ns : List Node} {i : ℕ} → FailsAt b a p ns i → (at : ℕ) → judge b a p ns at ≡ failed (at + i)
    unfolding judge
    fails-failed f at = stops-failed (pictures b) b.rules bulk (pictures-lessen b) (fails-stops b f) (bulk p) (omega arith) at

module _ (b : Contents) (p : Picture) where
  -- A row ends as told, ...
  pub ends : (ns : List Node) → Ends b p ns (checked b p ns)
  unfolding checked judge
  ends ns = by-judged (judge b b.start p ns 0) (says (pictures b) b.rules (bulk b) (pictures-lessen b) (bulk b p) b.start p ns 0 (omega arith))
    where
      by-judged : (j : Judged) → Says (pictures b) b.rules (bulk b) (pictures-lessen b) b.start p ns 0 j → Ends b p ns (ended j)
      by-judged (past e []) (xs, row, split, place) = rw (split, append-nil xs) (a_tree (row-tree b row))
      by-judged (past e (v ∷ vs)) (xs, row, split, place) =
          let count : e ≡ length xs = omega (arith, place) in
          rw (split, count) (left_over v vs (row-tree b row))
      by-judged (failed e) (i, stops, place) =
          let count : e ≡ i = omega (arith, place) in
          rw count (fails (stops-fails b stops))

  -- ... and in no other way, so that two outcomes are one.
  pub ends-checked : {ns : List Node} {f : Fault} → Ends b p ns f → checked b p ns ≡ f
  unfolding checked
  ends-checked {ns} (a_tree t) =
      ap (λ (xs : List Node). ended (judge b b.start p xs 0)) (sym (append-nil ns)) ∙ ap ended (tree-passed b t [] 0)
  ends-checked (fails {ns} {i} f) =
      let count : 0 + i ≡ i = omega arith in
      ap ended (fails-failed b f 0) ∙ ap (λ (e : ℕ). ended (failed e)) count
  ends-checked (left_over {xs} v vs t) =
      let count : 0 + length xs ≡ length xs = omega arith in
      ap ended (tree-passed b t (v ∷ vs) 0) ∙ ap (λ (e : ℕ). ended (past e (v ∷ vs))) count

  pub one_end : {ns : List Node} {f g : Fault} → Ends b p ns f → Ends b p ns g → f ≡ g
  one_end x y = sym (ends-checked x) ∙ ends-checked y

  -- 0 exactly for the trees of the picture.
  pub accepted : (ns : List Node) → ((checked b p ns).number ≡ 0) ↔ TreeOf b b.start p ns
  accepted ns = (λ e. from_zero (ends ns) e, λ t. ap (λ (f : Fault). f.number) (ends-checked (a_tree t)))
    where
      from_zero : {ns : List Node} {f : Fault} → Ends b p ns f → f.number ≡ 0 → TreeOf b b.start p ns
      from_zero (a_tree t) e = t
      from_zero (fails f) e = absurd (omega arith)
      from_zero (left_over v vs t) e = absurd (omega arith)
