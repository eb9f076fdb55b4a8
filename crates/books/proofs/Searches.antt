-- The search finds exactly what the rules give, of whatever comes apart: what it finds is a cell or a join, and since a cut lessens the measure, what there is
-- is found within it.
use Prim.Native.Nat.{ℕ, zero, suc, ◌-◌, ◌≤◌, ◌<◌}
use mathlib.Core.Path.{◌≡◌, refl, sym, ◌∙◌, ap, subst}
use mathlib.Core.Bool.{Bool, true, false≢true}
use mathlib.Core.List.Memᴰ
use mathlib.Core.List.{List, [], ◌∷◌, Memᴰ}
use mathlib.Core.Logic.{◌↔◌, ⊎_elim}
use native.Mathlib.Nat.{eq-or-lt_of_le}
use native.Mathlib.Omega.{arith}
use lib.Dec.{eqb}
use borrow.Author.Tests.{eqb-true, eq-eqb}
use Rattle.names.proofs.Tests.{and_both, and-make, or-either, or_left, or_right, both_ways}
use Rattle.books.specs.Picture.{joins}
use Rattle.books.specs.declared.rule.Dir.TheVariants.{Across as across, Down as down}
use Rattle.books.specs.declared.rule.Dir.{Dir}
use Rattle.books.specs.Search.{Cutting, Ruled, Gives, paint, join, any_cut, fits_body, any_rule, gives_in, Lessens}
use Rattle.names.specs.Pick.{and_then}
use Rattle.books.specs.declared.rule.Rule.{Rule}
use Rattle.books.specs.declared.rule.Body.{Body}
use Rattle.books.specs.declared.rule.Body.TheVariants.{Colour, Across, Down}

-- One row and one column are tested first, of whatever is a cell.
pub one_cell : {P : Type 0} (m n : ℕ) (t : Bool) → (t ≡ true) ↔ P
    → (and_then (eqb m 1) (λ _. and_then (eqb n 1) (λ _. t)) ≡ true) ↔ ((m ≡ 1) × (n ≡ 1) × P)
one_cell m n t right = (
  λ e. let (x, u) = and_both (eqb m 1) _ e in let (y, z) = and_both (eqb n 1) _ u in (eqb-true m 1 x, eqb-true n 1 y, right.0 z),
  λ (e, f, g). and-make (eqb m 1) _ (eq-eqb m 1 e) (and-make (eqb n 1) _ (eq-eqb n 1 f) (right.1 g)),
)

module _ {X : Type 0} (c : Cutting X) (rules : List Rule) (bulk : X → ℕ) (less : Lessens c bulk) where
  -- A cut at n or below it is found exactly where one is.
  module _ (t : ℕ → X → Bool) (d : Dir) (l r : ℕ) (x : X) where
    cut-back : (n : ℕ) → any_cut c t d l r x n ≡ true
        → (k : ℕ) × (1 ≤ k) × (k ≤ n) × (t l (c.first d k x) ≡ true) × (t r (c.rest d k x) ≡ true)
    unfolding any_cut
    cut-back zero e = absurd (false≢true e)
    cut-back (suc n) e =
        ⊎_elim
        (λ u. let (y, z) = and_both _ _ u in (suc n, omega arith, omega arith, y, z))
        (λ u. let (k, h, i, y, z) = cut-back n u in (k, h, omega arith, y, z))
        (or-either (and_then (t l (c.first d (suc n) x)) (λ _. t r (c.rest d (suc n) x))) _ e)

    cut-forth : (k n : ℕ) → 1 ≤ k → k ≤ n → t l (c.first d k x) ≡ true → t r (c.rest d k x) ≡ true → any_cut c t d l r x n ≡ true
    unfolding any_cut
    cut-forth k zero h i y z = absurd (omega arith)
    cut-forth k (suc n) h i y z =
        ⊎_elim
        (λ (e : k ≡ suc n). or_left _ _ (and-make _ _
        (subst (λ (m : ℕ). t l (c.first d m x) ≡ true) e y)
        (subst (λ (m : ℕ). t r (c.rest d m x) ≡ true) e z)))
        (λ (e : k < suc n). or_right _ _ (cut-forth k n h (omega arith) y z))
        (eq-or-lt_of_le i)

  fits-joins : (t : ℕ → X → Bool) (x : X) (d : Dir) (l r : ℕ) → fits_body c t x (joins d l r) ≡ any_cut c t d l r x (c.reach d x - 1)
  unfolding fits_body
  fits-joins t x across l r = refl
  fits-joins t x down u v = refl

  -- What a search finds is given, where the test of the parts finds what is given.
  module _ (t : ℕ → X → Bool) (x : X) (sound : (a : ℕ) (y : X) → t a y ≡ true → Gives c rules a y) where
    joins-sound : (d : Dir) (a l r : ℕ) → Ruled rules a (joins d l r) → any_cut c t d l r x (c.reach d x - 1) ≡ true → Gives c rules a x
    joins-sound d a l r h e =
        let (k, hk, hs, y, z) = cut-back t d l r x (c.reach d x - 1) e in
        join {x = x} d l r k h hk (omega arith) (sound _ _ y) (sound _ _ z)

    body-sound : (a : ℕ) (y : Body) → Ruled rules a y → fits_body c t x y ≡ true → Gives c rules a x
    unfolding fits_body
    body-sound a (Colour k) h e = paint k h ((less.tested k x).0 e)
    body-sound a (Across l r) h e = joins-sound across a l r h e
    body-sound a (Down u v) h e = joins-sound down a u v h e

    rules-sound : (a : ℕ) (rs : List Rule) → ((r : Rule) → Memᴰ r rs → Memᴰ r rules) → any_rule c t a x rs ≡ true → Gives c rules a x
    unfolding any_rule
    rules-sound a [] i e = absurd (false≢true e)
    rules-sound a (r ∷ rs) i e =
        ⊎_elim
        (λ u. let (y, z) = and_both _ _ u in
        body-sound a r.body (i _ (Memᴰ.head (λ j. record { head = sym (eqb-true r.head a y) j; body = r.body }))) z)
        (λ u. rules-sound a rs (λ q m. i q (Memᴰ.tail m)) u)
        (or-either _ _ e)

  -- A rule that fits is found.
  rule-complete : (t : ℕ → X → Bool) (x : X) (a : ℕ) (y : Body) (rs : List Rule)
      → Memᴰ (record { head = a; body = y }) rs → fits_body c t x y ≡ true → any_rule c t a x rs ≡ true
  unfolding any_rule
  rule-complete t x a y [] m e = absurd (Memᴰ.not-nil m)
  rule-complete t x a y (r ∷ rs) m e =
      ⊎_elim
      (λ (q : ◌≡◌ {A = Rule} (record { head = a; body = y }) r). or_left _ _ (and-make _ _
      (eq-eqb _ _ (sym (ap (λ (z : Rule). z.head) q)))
      (sym (ap (λ (z : Rule). fits_body c t x z.body) q) ∙ e)))
      (λ u. or_right _ _ (rule-complete t x a y rs u e))
      (Memᴰ.cases_cons m)

  -- What is given is found, where the test finds what is given of less.
  rules-complete : (t : ℕ → X → Bool) (x : X) → ((a : ℕ) (y : X) → bulk y < bulk x → Gives c rules a y → t a y ≡ true)
      → (a : ℕ) → Gives c rules a x → any_rule c t a x rules ≡ true
  rules-complete t x complete a (paint k h e) = rule-complete t x a (Colour k) rules h (unfold fits_body in ((less.tested k x).1 e))
  rules-complete t x complete a (join d l r k h hk hs y z) =
      rule-complete t x a (joins d l r) rules h
      (fits-joins t x d l r
      ∙ cut-forth t d l r x k (c.reach d x - 1) hk (omega arith)
      (complete l _ (less.first_less d k x hk hs) y)
      (complete r _ (less.rest_less d k x hk hs) z))

  some : (a : ℕ) (x : X) → Gives c rules a x → 1 ≤ bulk x
  some a x (paint k h e) = less.cell_some k x e
  some a x (join d l r k h hk hs y z) = omega (arith, less.first_less d k x hk hs)

  found-given : (n a : ℕ) (x : X) → gives_in c rules n a x ≡ true → Gives c rules a x
  unfolding gives_in
  found-given zero a x e = absurd (false≢true e)
  found-given (suc n) a x e = rules-sound (λ y z. gives_in c rules n y z) x (λ y z. found-given n y z) a rules (λ r m. m) e

  given-found : (n a : ℕ) (x : X) → bulk x ≤ n → Gives c rules a x → gives_in c rules n a x ≡ true
  unfolding gives_in
  given-found zero a x h g = absurd (omega (arith, some a x g))
  given-found (suc n) a x h g = rules-complete (λ y z. gives_in c rules n y z) x (λ y z i u. given-found n y z (omega arith) u) a g

  pub searched : (a : ℕ) (x : X) → (gives_in c rules (bulk x) a x ≡ true) ↔ Gives c rules a x
  searched a x = (found-given (bulk x) a x, λ g. given-found (bulk x) a x (omega arith) g)

  -- the answer goes by the answers for what is less
  pub search-step : (a : ℕ) (x : X) → gives_in c rules (bulk x) a x ≡ any_rule c (λ y z. gives_in c rules (bulk z) y z) a x rules
  search-step a x =
      both_ways _ _
      (λ e. rules-complete (λ y z. gives_in c rules (bulk z) y z) x (λ y z _ g. (searched y z).1 g) a ((searched a x).0 e))
      (λ e. (searched a x).1 (rules-sound (λ y z. gives_in c rules (bulk z) y z) x (λ y z. (searched y z).0) a rules (λ r m. m) e))
