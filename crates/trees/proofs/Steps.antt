-- What a step tells of a node, and which step a right node gets: each test of a step is exact.
use Prim.Native.Nat.{ℕ, ◌≤◌, ◌<◌}
use mathlib.Core.Path.{◌≡◌, refl, ap, ◌∙◌}
use mathlib.Core.Bool.{Bool, true, false, false≢true}
use mathlib.Core.List.{List}
use lib.Dec.{eqb, ltb}
use lib.ListN.{length, get_or}
use borrow.Author.Tests.{eqb-true, eq-eqb, ltb-true, lt-ltb}
use Rattle.names.specs.Pick.{pick, and_then}
use Rattle.names.proofs.Picking.{pick_ind}
use Rattle.books.specs.Picture.{joins}
use Rattle.books.specs.declared.rule.Dir.{Dir}
use Rattle.books.specs.declared.rule.Dir.TheVariants.{Across as across, Down as down}
use Rattle.names.specs.Pick.{and_then}
use Rattle.books.specs.Search.{Cutting}
use Rattle.books.specs.Rules.{no_rule}
use Rattle.books.specs.declared.rule.Rule.{Rule}
use Rattle.books.specs.declared.rule.Body.{Body}
use Rattle.books.specs.declared.rule.Body.TheVariants.{Colour, Across, Down}
use Rattle.names.proofs.Tests.{and_both, and-make}
use Rattle.trees.specs.declared.node.Node.{Node}
use Rattle.trees.specs.Judge.{join_step, body_step, step, Step, Wrong, Cell, Join}

pick_true : {A : Type 0} (t : Bool) (x y : A) → t ≡ true → pick t x y ≡ x
pick_true true x y e = refl
pick_true false x y e = absurd (false≢true e)

-- rule number i has head a and body y
pub record Numbered (rules : List Rule) (i a : ℕ) (y : Body) : Type 0 where
  pub below : i < length rules
  pub rule_is : get_or rules i no_rule ≡ record { head = a; body = y }

pub record CellAt {X : Type 0} (c : Cutting X) (rules : List Rule) (a : ℕ) (x : X) (v : Node) (i : ℕ) : Type 0 where
  pub ruled : Numbered rules v.rule a (Colour i)
  pub uncut : v.cut ≡ 0
  pub shown : c.shown i x ≡ true

pub record PartsAt {X : Type 0} (c : Cutting X) (rules : List Rule) (a : ℕ) (x : X) (v : Node) (d : Dir) (l r : ℕ) : Type 0 where
  pub ruled : Numbered rules v.rule a (joins d l r)
  pub from_one : 1 ≤ v.cut
  pub inside : v.cut < c.reach d x

module _ {X : Type 0} (c : Cutting X) (rules : List Rule) (a : ℕ) (x : X) (v : Node) where
  abbrev pub Means : Step → Type 0
  Means Wrong = Unit {0}
  Means Cell = (i : ℕ) × CellAt c rules a x v i
  Means (Join d l r) = PartsAt c rules a x v d l r

  join-means : (d : Dir) (l r : ℕ) → Numbered rules v.rule a (joins d l r) → Means (join_step c x v.cut d l r)
  unfolding join_step
  join-means d l r u =
      pick_ind Means (and_then (ltb 0 v.cut) (λ _. ltb v.cut (c.reach d x))) (Join d l r) Wrong
      (λ e. let (h, i) = and_both (ltb 0 v.cut) _ e in
      record { ruled = u; from_one = ltb-true 0 v.cut h; inside = ltb-true v.cut (c.reach d x) i })
      (λ e. tt)

  body-means : (y : Body) → Numbered rules v.rule a y → Means (body_step c x v.cut y)
  unfolding body_step
  body-means (Colour i) u =
      pick_ind Means (and_then (eqb v.cut 0) (λ _. c.shown i x)) Cell Wrong
      (λ e. let (h, s) = and_both (eqb v.cut 0) _ e in (i, record { ruled = u; uncut = eqb-true v.cut 0 h; shown = s }))
      (λ e. tt)
  body-means (Across l r) u = join-means across l r u
  body-means (Down l r) u = join-means down l r u

  pub step-means : Means (step c rules a x v)
  unfolding step
  step-means =
      pick_ind Means (and_then (ltb v.rule (length rules)) (λ _. eqb (get_or rules v.rule no_rule).head a))
      (body_step c x v.cut (get_or rules v.rule no_rule).body) Wrong
      (λ e. let (h, s) = and_both (ltb v.rule (length rules)) _ e in
      body-means (get_or rules v.rule no_rule).body
      (record {
        below = ltb-true v.rule (length rules) h;
        rule_is = λ j. record { head = eqb-true (get_or rules v.rule no_rule).head a s j; body = (get_or rules v.rule no_rule).body };
      }))
      (λ e. tt)

  pub step-body : (y : Body) → Numbered rules v.rule a y → step c rules a x v ≡ body_step c x v.cut y
  unfolding step
  step-body y u =
      pick_true (and_then (ltb v.rule (length rules)) (λ _. eqb (get_or rules v.rule no_rule).head a)) _ _
      (and-make (ltb v.rule (length rules)) _ (lt-ltb _ _ u.below) (eq-eqb _ _ (ap (λ (z : Rule). z.head) u.rule_is)))
      ∙ ap (λ (z : Rule). body_step c x v.cut z.body) u.rule_is

  pub body-joins : (d : Dir) (l r : ℕ) → body_step c x v.cut (joins d l r) ≡ join_step c x v.cut d l r
  unfolding body_step
  body-joins across l r = refl
  body-joins down l r = refl

  pub step-cell : (i : ℕ) → CellAt c rules a x v i → step c rules a x v ≡ Cell
  unfolding body_step
  step-cell i u =
      step-body (Colour i) u.ruled
      ∙ pick_true (and_then (eqb v.cut 0) (λ _. c.shown i x)) Cell Wrong (and-make (eqb v.cut 0) _ (eq-eqb _ _ u.uncut) u.shown)

  pub step-parts : (d : Dir) (l r : ℕ) → PartsAt c rules a x v d l r → step c rules a x v ≡ Join d l r
  unfolding join_step
  step-parts d l r u =
      step-body (joins d l r) u.ruled ∙ body-joins d l r
      ∙ pick_true (and_then (ltb 0 v.cut) (λ _. ltb v.cut (c.reach d x))) (Join d l r) Wrong
      (and-make (ltb 0 v.cut) _ (lt-ltb _ _ u.from_one) (lt-ltb _ _ u.inside))
