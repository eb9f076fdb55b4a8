-- Judging tells exactly what a row is: a step asks for what its node's parts must be, and since a cut lessens the measure, it never runs out.
use Prim.Native.Nat.{ℕ, zero, suc, ◌+◌, ◌≤◌, ◌<◌}
use mathlib.Core.Path.{◌≡◌, refl, sym, ap, ◌∙◌, subst}
use mathlib.Core.List.{List, [], ◌∷◌, ◌++◌, append_assoc}
use native.Mathlib.Omega.{arith}
use lib.ListN.{length, length-append}
use Rattle.books.specs.declared.rule.Dir.{Dir}
use Rattle.books.specs.Search.{Cutting, Lessens}
use Rattle.books.specs.declared.rule.Rule.{Rule}
use Rattle.trees.specs.declared.node.Node.{Node}
use Rattle.trees.specs.Judge.{step, Judged, past, failed, followed, on_step, judge_in, Step, Wrong, Cell, Join}
use Rattle.trees.proofs.Steps.{Means, step-means}

-- the rows that the steps take, and the first node that they do not
pub data Row {X : Type 0} (c : Cutting X) (rules : List Rule) : ℕ → X → List Node → Type 0 where
  leaf : {a : ℕ} {x : X} {v : Node} → step c rules a x v ≡ Cell → Row c rules a x (v ∷ [])
  node : {a : ℕ} {x : X} {v : Node} {xs ys : List Node} (d : Dir) (l r : ℕ) → step c rules a x v ≡ Join d l r
      → Row c rules l (c.first d v.cut x) xs → Row c rules r (c.rest d v.cut x) ys → Row c rules a x (v ∷ (xs ++ ys))

pub data Stops {X : Type 0} (c : Cutting X) (rules : List Rule) : ℕ → X → List Node → ℕ → Type 0 where
  missing : {a : ℕ} {x : X} → Stops c rules a x [] 0
  here : {a : ℕ} {x : X} {v : Node} {vs : List Node} → step c rules a x v ≡ Wrong → Stops c rules a x (v ∷ vs) 0
  in_first : {a : ℕ} {x : X} {v : Node} {vs : List Node} {i : ℕ} (d : Dir) (l r : ℕ) → step c rules a x v ≡ Join d l r
      → Stops c rules l (c.first d v.cut x) vs i → Stops c rules a x (v ∷ vs) (suc i)
  in_rest : {a : ℕ} {x : X} {v : Node} {xs vs : List Node} {i : ℕ} (d : Dir) (l r : ℕ) → step c rules a x v ≡ Join d l r
      → Row c rules l (c.first d v.cut x) xs → Stops c rules r (c.rest d v.cut x) vs i
      → Stops c rules a x (v ∷ (xs ++ vs)) (suc (length xs + i))

module _ {X : Type 0} (c : Cutting X) (rules : List Rule) (bulk : X → ℕ) (less : Lessens c bulk) where
  -- A right node leaves something to measure, and its parts less.
  module _ (a : ℕ) (x : X) (v : Node) where
    cell_some : step c rules a x v ≡ Cell → 1 ≤ bulk x
    cell_some e =
        let (i, u) : Means c rules a x v Cell = subst (λ (s : Step). Means c rules a x v s) e (step-means c rules a x v) in
        less.cell_some i x ((less.tested i x).0 u.shown)

    pub parts-less : (d : Dir) (l r : ℕ) → step c rules a x v ≡ Join d l r → (bulk (c.first d v.cut x) < bulk x) × (bulk (c.rest d v.cut x) < bulk x)
    parts-less d l r e =
        let u : Means c rules a x v (Join d l r) = subst (λ (s : Step). Means c rules a x v s) e (step-means c rules a x v) in
        (less.first_less d v.cut x u.from_one u.inside, less.rest_less d v.cut x u.from_one u.inside)

  -- What judging says of the nodes from a place on.
  abbrev pub Says : ℕ → X → List Node → ℕ → Judged → Type 0
  Says a x ns at (past e left) = (xs : List Node) × Row c rules a x xs × (ns ≡ xs ++ left) × (e ≡ at + length xs)
  Says a x ns at (failed e) = (i : ℕ) × Stops c rules a x ns i × (e ≡ at + i)

  none_left : (a : ℕ) (x : X) (ns : List Node) → bulk x ≤ 0 → Stops c rules a x ns 0
  none_left a x [] h = missing
  none_left a x (v ∷ vs) h = by-step (step c rules a x v) refl
    where
      by-step : (s : Step) → step c rules a x v ≡ s → Stops c rules a x (v ∷ vs) 0
      by-step Wrong e = here e
      by-step Cell e = absurd (omega (arith, cell_some a x v e))
      by-step (Join d l r) e = absurd (omega (arith, (parts-less a x v d l r e).0))

  module _ (a : ℕ) (x : X) (v : Node) (vs : List Node) (at : ℕ) (d : Dir) (l r : ℕ) (e : step c rules a x v ≡ Join d l r) where
    after_first : (xs left : List Node) (f : ℕ) → Row c rules l (c.first d v.cut x) xs → vs ≡ xs ++ left → f ≡ at + 1 + length xs
        → (j : Judged) → Says r (c.rest d v.cut x) left f j → Says a x (v ∷ vs) at j
    after_first xs left f row split place (past g after) (ys, row', split', place') = (
      v ∷ (xs ++ ys),
      node d l r e row row',
      ap (λ (z : List Node). v ∷ z) (split ∙ ap (λ (z : List Node). xs ++ z) split' ∙ sym (append_assoc xs ys after)),
      omega (arith, length-append xs ys),
    )
    after_first xs left f row split place (failed g) (i, stops, place') =
        (suc (length xs + i), rw split (in_rest d l r e row stops), omega arith)

    then-second : (go : ℕ → List Node → Judged) → ((left : List Node) (f : ℕ) → Says r (c.rest d v.cut x) left f (go f left))
        → (j : Judged) → Says l (c.first d v.cut x) vs (at + 1) j → Says a x (v ∷ vs) at (followed j go)
    then-second go said (past f left) (xs, row, split, place) = after_first xs left f row split place (go f left) (said left f)
    then-second go said (failed f) (i, stops, place) = (suc i, in_first d l r e stops, omega arith)

  pub says : (n a : ℕ) (x : X) (ns : List Node) (at : ℕ) → bulk x ≤ n → Says a x ns at (judge_in c rules n a x ns at)
  unfolding judge_in
  says zero a x ns at h = (0, none_left a x ns h, omega arith)
  says (suc n) a x [] at h = (0, missing, omega arith)
  says (suc n) a x (v ∷ vs) at h = on_step_lem a x v vs at (λ y z ns e. judge_in c rules n y z ns e) (λ y z ns e i. says n y z ns e (omega arith)) (step c rules a x v) refl
    where
      on_step_lem : (a : ℕ) (x : X) (v : Node) (vs : List Node) (at : ℕ) (go : ℕ → X → List Node → ℕ → Judged)
          → ((y : ℕ) (z : X) (ns : List Node) (e : ℕ) → bulk z < bulk x → Says y z ns e (go y z ns e))
          → (s : Step) → step c rules a x v ≡ s → Says a x (v ∷ vs) at (on_step c go x v.cut vs at s)
      on_step_lem a x v vs at go said Wrong e = (0, here e, omega arith)
      on_step_lem a x v vs at go said Cell e = (v ∷ [], leaf e, refl, omega arith)
      on_step_lem a x v vs at go said (Join d l r) e =
          then-second a x v vs at d l r e (λ f left. go r (c.rest d v.cut x) left f)
          (λ left f. said r (c.rest d v.cut x) left f (parts-less a x v d l r e).1)
          (go l (c.first d v.cut x) vs (at + 1))
          (said l (c.first d v.cut x) vs (at + 1) (parts-less a x v d l r e).0)

  -- A row that the steps take is passed, with whatever is left, ...
  pub step-on : (n a : ℕ) (x : X) (v : Node) (vs : List Node) (at : ℕ) (s : Step) → step c rules a x v ≡ s
      → judge_in c rules (suc n) a x (v ∷ vs) at ≡ on_step c (λ y z ns e. judge_in c rules n y z ns e) x v.cut vs at s
  unfolding judge_in
  step-on n a x v vs at s e = ap (λ (t : Step). on_step c (λ y z ns f. judge_in c rules n y z ns f) x v.cut vs at t) e

  pub row-passed : {a : ℕ} {x : X} {xs : List Node} → Row c rules a x xs → (n : ℕ) → bulk x ≤ n → (left : List Node) (at : ℕ)
      → judge_in c rules n a x (xs ++ left) at ≡ past (at + length xs) left
  row-passed (leaf {a} {x} {v} e) zero h left at = absurd (omega (arith, cell_some a x v e))
  row-passed (leaf {a} {x} {v} e) (suc n) h left at = step-on n a x v left at Cell e
  row-passed (node {a} {x} {v} d l r e row row') zero h left at = absurd (omega (arith, (parts-less a x v d l r e).0))
  row-passed (node {a} {x} {v} {xs} {ys} d l r e row row') (suc n) h left at =
      let (less_first, less_rest) = parts-less a x v d l r e in
      let place : at + 1 + length xs + length ys ≡ at + length (v ∷ (xs ++ ys)) = omega (arith, length-append xs ys) in
      step-on n a x v ((xs ++ ys) ++ left) at (Join d l r) e
      ∙ ap (λ (z : List Node). followed (judge_in c rules n l (c.first d v.cut x) z (at + 1)) (λ f w. judge_in c rules n r (c.rest d v.cut x) w f)) (append_assoc xs ys left)
      ∙ ap (λ (j : Judged). followed j (λ f w. judge_in c rules n r (c.rest d v.cut x) w f)) (row-passed row n (omega arith) (ys ++ left) (at + 1))
      ∙ row-passed row' n (omega arith) left (at + 1 + length xs)
      ∙ ap (λ (m : ℕ). past m left) place

  -- ... and at the first node that they do not take it fails.
  no-further : (at : ℕ) → failed at ≡ failed (at + 0)
  no-further at = let place : at ≡ at + 0 = omega arith in ap (λ (m : ℕ). failed m) place

  pub stops-failed : {a : ℕ} {x : X} {ns : List Node} {i : ℕ} → Stops c rules a x ns i → (n : ℕ) → bulk x ≤ n → (at : ℕ)
      → judge_in c rules n a x ns at ≡ failed (at + i)
  stops-failed (missing {a} {x}) zero h at = unfold judge_in in (no-further at)
  stops-failed (missing {a} {x}) (suc n) h at = unfold judge_in in (no-further at)
  stops-failed (here {a} {x} {v} {vs} e) zero h at = unfold judge_in in (no-further at)
  stops-failed (here {a} {x} {v} {vs} e) (suc n) h at = step-on n a x v vs at Wrong e ∙ no-further at
  stops-failed (in_first {a} {x} {v} d l r e stops) zero h at = absurd (omega (arith, (parts-less a x v d l r e).0))
  stops-failed (in_first {a} {x} {v} {vs} {i} d l r e stops) (suc n) h at =
      let (less_first, less_rest) = parts-less a x v d l r e in
      let place : at + 1 + i ≡ at + suc i = omega arith in
      step-on n a x v vs at (Join d l r) e
      ∙ ap (λ (j : Judged). followed j (λ f w. judge_in c rules n r (c.rest d v.cut x) w f)) (stops-failed stops n (omega arith) (at + 1))
      ∙ ap (λ (m : ℕ). failed m) place
  stops-failed (in_rest {a} {x} {v} d l r e row stops) zero h at = absurd (omega (arith, (parts-less a x v d l r e).0))
  stops-failed (in_rest {a} {x} {v} {xs} {vs} {i} d l r e row stops) (suc n) h at =
      let (less_first, less_rest) = parts-less a x v d l r e in
      let place : at + 1 + length xs + i ≡ at + suc (length xs + i) = omega arith in
      step-on n a x v (xs ++ vs) at (Join d l r) e
      ∙ ap (λ (j : Judged). followed j (λ f w. judge_in c rules n r (c.rest d v.cut x) w f)) (row-passed row n (omega arith) vs (at + 1))
      ∙ stops-failed stops n (omega arith) (at + 1 + length xs)
      ∙ ap (λ (m : ℕ). failed m) place
