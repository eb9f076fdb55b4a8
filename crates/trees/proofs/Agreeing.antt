-- Two ways of coming apart judge alike where they are alike: a node's step asks how far they reach and which cells they are. So the code judges the whole sheet as the picture.
use Prim.Native.Nat.{ℕ, zero, suc, ◌+◌, ◌≤◌}
use mathlib.Core.Path.{◌≡◌, refl, ap, ◌∙◌, subst}
use mathlib.Core.Bool.{Bool, true, false}
use mathlib.Core.List.{List, [], ◌∷◌}
use borrow.Author.Tests.{ltb-true}
use lib.Dec.{eqb, ltb}
use lib.ListN.{length, get_or}
use Rattle.names.specs.Pick.{pick, and_then}
use Rattle.names.proofs.Listing.{get_or-mem}
use Rattle.names.proofs.Tests.{and_both}
use Rattle.books.specs.Contents.{Contents}
use Rattle.books.specs.Decide.{pictures}
use Rattle.books.specs.Picture.{Picture}
use Rattle.books.specs.Rules.{no_rule}
use Rattle.books.specs.Search.{Cutting, Ruled}
use Rattle.books.specs.declared.rule.Body.{Body}
use Rattle.books.specs.declared.rule.Body.TheVariants.{Colour, Across, Down}
use Rattle.books.specs.declared.rule.Dir.{Dir}
use Rattle.books.specs.declared.rule.Dir.TheVariants.{Across as across, Down as down}
use Rattle.books.specs.declared.rule.Rule.{Rule}
use Rattle.books.proofs.AlikeSearches.{Alike}
use Rattle.pieces.specs.Area.{whole}
use Rattle.pieces.specs.OnSheet.{on_sheet}
use Rattle.pieces.proofs.ComingApart.{bulk}
use Rattle.pieces.proofs.PiecesAlike.{NumberedBy, size_of, CutsOut, whole-cuts, pieces-alike}
use Rattle.trees.specs.declared.node.Node.{Node}
use Rattle.trees.specs.Judge.{join_step, body_step, step, Judged, past, failed, followed, on_step, judge_in, judge, Step, Wrong, Cell, Join}
use Rattle.trees.proofs.Steps.{PartsAt, Means, step-means}

same-where : {A : Type 0} (t : Bool) (x y z : A) → (t ≡ true → x ≡ y) → pick t x z ≡ pick t y z
same-where true x y z e = e refl
same-where false x y z e = refl

module _ {X Y : Type 0} (c : Cutting X) (g : Cutting Y) (rules : List Rule) (R : X → Y → Type 0) (alike : Alike c g rules R) where
  -- ── A node takes the same step ──

  joins-same : (k : ℕ) (x : X) (y : Y) (d : Dir) (l r : ℕ) → R x y → join_step c x k d l r ≡ join_step g y k d l r
  unfolding join_step
  joins-same k x y d l r h = ap (λ (n : ℕ). pick (and_then (ltb 0 k) (λ _. ltb k n)) (Join d l r) Wrong) (alike.reaches d x y h)

  bodies-same : (k a : ℕ) (x : X) (y : Y) (z : Body) → Ruled rules a z → R x y → body_step c x k z ≡ body_step g y k z
  unfolding body_step
  bodies-same k a x y (Colour i) m h = ap (λ (t : Bool). pick (and_then (eqb k 0) (λ _. t)) Cell Wrong) (alike.cells a i x y m h)
  bodies-same k a x y (Across l r) m h = joins-same k x y across l r h
  bodies-same k a x y (Down u v) m h = joins-same k x y down u v h

  steps-same : (a : ℕ) (x : X) (y : Y) (v : Node) → R x y → step c rules a x v ≡ step g rules a y v
  unfolding step
  steps-same a x y v h =
      same-where (and_then (ltb v.rule (length rules)) (λ _. eqb (get_or rules v.rule no_rule).head a)) _ _ Wrong
      (λ e. let (below, _) = and_both (ltb v.rule (length rules)) _ e in
      bodies-same v.cut _ x y (get_or rules v.rule no_rule).body (get_or-mem rules v.rule no_rule (ltb-true _ _ below)) h)

  -- ── And so do its parts ──

  same_after : (j : Judged) (s t : ℕ → List Node → Judged) → ((e : ℕ) (left : List Node) → s e left ≡ t e left) → followed j s ≡ followed j t
  same_after (past e left) s t same = same e left
  same_after (failed e) s t same = refl

  on_step_lem : (a : ℕ) (x : X) (y : Y) (v : Node) (vs : List Node) (at : ℕ) → R x y
      → (s : ℕ → X → List Node → ℕ → Judged) (t : ℕ → Y → List Node → ℕ → Judged)
      → ((k : ℕ) (w : X) (z : Y) (ns : List Node) (e : ℕ) → R w z → s k w ns e ≡ t k z ns e)
      → (o : Step) → step c rules a x v ≡ o → on_step c s x v.cut vs at o ≡ on_step g t y v.cut vs at o
  on_step_lem a x y v vs at h s t same Wrong e = refl
  on_step_lem a x y v vs at h s t same Cell e = refl
  on_step_lem a x y v vs at h s t same (Join d l r) e =
      let u : PartsAt c rules a x v d l r = subst (λ (o : Step). Means c rules a x v o) e (step-means c rules a x v) in
      ap (λ (j : Judged). followed j (λ f left. s r (c.rest d v.cut x) left f))
      (same l _ _ vs (at + 1) (alike.firsts d v.cut x y h u.from_one u.inside))
      ∙ same_after (t l (g.first d v.cut y) vs (at + 1)) _ _ (λ f left. same r _ _ left f (alike.rests d v.cut x y h u.from_one u.inside))

  judged-alike : (n a : ℕ) (x : X) (y : Y) (ns : List Node) (at : ℕ) → R x y → judge_in c rules n a x ns at ≡ judge_in g rules n a y ns at
  unfolding judge_in
  judged-alike zero a x y ns at h = refl
  judged-alike (suc n) a x y [] at h = refl
  judged-alike (suc n) a x y (v ∷ vs) at h =
      on_step_lem a x y v vs at h (λ k w ns e. judge_in c rules n k w ns e) (λ k z ns e. judge_in g rules n k z ns e)
      (λ k w z ns e i. judged-alike n k w z ns e i) (step c rules a x v) refl
      ∙ ap (λ (o : Step). on_step g (λ k z ns e. judge_in g rules n k z ns e) y v.cut vs at o) (steps-same a x y v h)

-- The whole sheet is judged as the picture.
pub sheet-judged : (b : Contents) (p : Picture) (cells : List ℕ) → NumberedBy b p cells → (a : ℕ) (ns : List Node) (at : ℕ) → 1 ≤ p.rows → 1 ≤ p.cols
    → judge_in (on_sheet (size_of p) cells) b.rules (bulk (whole p.rows p.cols)) a (whole p.rows p.cols) ns at ≡ judge b a p ns at
unfolding judge
sheet-judged b p cells given a ns at hr hc =
    judged-alike (on_sheet (size_of p) cells) (pictures b) b.rules (CutsOut p) (pieces-alike b p cells given) (p.rows + p.cols) a (whole p.rows p.cols) p ns at
    (whole-cuts p hr hc)
