-- Judging by places in the whole row, as code goes: each law says what the node at a place leaves to its parts; the bound on the depth does not matter.
use Prim.Native.Nat.{ℕ, zero, suc, ◌+◌, ◌≤◌, ◌<◌}
use mathlib.Core.Path.{◌≡◌, refl, sym, ap, ◌∙◌}
use mathlib.Core.List.{List, [], ◌∷◌, ◌++◌}
use native.Mathlib.Numerals.{add-one}
use native.Mathlib.Omega.{arith}
use lib.ListN.{length, get_or, drop, drop_of_length-le}
use lib.Seq.{drop-cons, drop-drop, drop-append_seam}
use Rattle.books.specs.declared.rule.Dir.{Dir}
use Rattle.books.specs.Search.{Cutting, Lessens}
use Rattle.books.specs.declared.rule.Rule.{Rule}
use Rattle.trees.specs.declared.node.Node.{Node}
use Rattle.trees.specs.Trees.{no_node}
use Rattle.trees.specs.Judge.{step, Judged, past, failed, followed, on_step, judge_in, Step, Wrong, Cell, Join}
use Rattle.trees.proofs.Rows.{Says, says, parts-less, step-on, row-passed, stops-failed}

module _ {X : Type 0} (c : Cutting X) (rules : List Rule) (bulk : X → ℕ) (less : Lessens c bulk) where
  -- The bound does not matter where it is no less than the measure.
  pub any-bound : (n m a : ℕ) (x : X) (ns : List Node) (at : ℕ) → bulk x ≤ n → bulk x ≤ m → judge_in c rules n a x ns at ≡ judge_in c rules m a x ns at
  any-bound n m a x ns at h i = by-judged (judge_in c rules n a x ns at) (says c rules bulk less n a x ns at h)
    where
      by-judged : (j : Judged) → Says c rules bulk less a x ns at j → judge_in c rules n a x ns at ≡ judge_in c rules m a x ns at
      by-judged (past e left) (xs, row, split, place) = rw split (row-passed c rules bulk less row n h left at ∙ sym (row-passed c rules bulk less row m i left at))
      by-judged (failed e) (k, stops, place) = stops-failed c rules bulk less stops n h at ∙ sym (stops-failed c rules bulk less stops m i at)

  -- from a place on
  abbrev pub judge_at : ℕ → X → List Node → ℕ → Judged
  judge_at a x ns at = judge_in c rules (bulk x) a x (drop at ns) at

  -- what is left stands at the place after the tree
  left_at : (ns xs left : List Node) (at e : ℕ) → drop at ns ≡ xs ++ left → e ≡ at + length xs → left ≡ drop e ns
  left_at ns xs left at e split place =
      sym (drop-append_seam xs left) ∙ ap (λ (l : List Node). drop (length xs) l) (sym split) ∙ drop-drop (length xs) at ns
      ∙ ap (λ (k : ℕ). drop k ns) (sym place)

  -- No node at the place, ...
  pub at-end : (a : ℕ) (x : X) (ns : List Node) (at : ℕ) → length ns ≤ at → judge_at a x ns at ≡ failed at
  at-end a x ns at h = rw (drop_of_length-le ns h) (none (bulk x))
    where
      none : (n : ℕ) → judge_in c rules n a x [] at ≡ failed at
      none zero = unfold judge_in in refl
      none (suc n) = unfold judge_in in refl

  module _ (a : ℕ) (x : X) (ns : List Node) (at : ℕ) (h : at < length ns) where
    abbrev v : Node
    v = get_or ns at no_node

    at-step : (s : Step) → step c rules a x v ≡ s → judge_at a x ns at ≡ on_step c (λ y z l e. judge_in c rules (bulk x) y z l e) x v.cut (drop (at + 1) ns) at s
    at-step s e =
        any-bound (bulk x) (suc (bulk x)) a x (drop at ns) at (omega arith) (omega arith)
        ∙ ap (λ (l : List Node). judge_in c rules (suc (bulk x)) a x l at) (drop-cons ns at no_node h ∙ ap (λ (k : ℕ). v ∷ drop k ns) (sym (add-one at)))
        ∙ step-on c rules bulk less (bulk x) a x v (drop (at + 1) ns) at s e

    -- ... or one that fails; ...
    pub at-wrong : step c rules a x v ≡ Wrong → judge_at a x ns at ≡ failed at
    at-wrong e = at-step Wrong e

    -- ... one cell; ...
    pub at-cell : step c rules a x v ≡ Cell → judge_at a x ns at ≡ past (at + 1) (drop (at + 1) ns)
    at-cell e = at-step Cell e

    -- ... or two parts, the second from the place after the first.
    pub at-parts : (d : Dir) (l r : ℕ) → step c rules a x v ≡ Join d l r
        → judge_at a x ns at ≡ followed (judge_at l (c.first d v.cut x) ns (at + 1)) (λ e _. judge_at r (c.rest d v.cut x) ns e)
    at-parts d l r e =
        let (less_first, less_rest) = parts-less c rules bulk less a x v d l r e in
        let y : X = c.first d v.cut x in
        let z : X = c.rest d v.cut x in
        at-step (Join d l r) e
        ∙ ap (λ (j : Judged). followed j (λ f left. judge_in c rules (bulk x) r z left f)) (any-bound (bulk x) (bulk y) l y (drop (at + 1) ns) (at + 1) (omega arith) (omega arith))
        ∙ then-rest l r y z (omega arith) (judge_at l y ns (at + 1)) (says c rules bulk less (bulk y) l y (drop (at + 1) ns) (at + 1) (omega arith))
      where
        then-rest : (l r : ℕ) (y z : X) → bulk z ≤ bulk x → (j : Judged) → Says c rules bulk less l y (drop (at + 1) ns) (at + 1) j
            → followed j (λ f left. judge_in c rules (bulk x) r z left f) ≡ followed j (λ f _. judge_at r z ns f)
        then-rest l r y z i (past f left) (xs, row, split, place) =
            ap (λ (w : List Node). judge_in c rules (bulk x) r z w f) (left_at ns xs left (at + 1) f split place)
            ∙ any-bound (bulk x) (bulk z) r z (drop f ns) f i (omega arith)
        then-rest l r y z i (failed f) said = refl
