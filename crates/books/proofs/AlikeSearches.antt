-- Two ways of coming apart are searched alike where they are alike and their parts go on being so: the search asks nothing else of them.
use Prim.Native.Nat.{ℕ, zero, suc, ◌-◌, ◌≤◌, ◌<◌}
use mathlib.Core.Path.{◌≡◌, refl, ap, ap₂, ◌∙◌}
use mathlib.Core.Bool.{Bool}
use mathlib.Core.List.{List, [], ◌∷◌, Memᴰ}
use native.Mathlib.Omega.{arith}
use lib.Dec.{eqb}
use Rattle.names.specs.Pick.{and_then, or_else}
use Rattle.books.specs.Search.{Cutting, Ruled, any_cut, fits_body, any_rule, gives_in}
use Rattle.books.specs.declared.rule.Dir.{Dir}
use Rattle.books.specs.declared.rule.Dir.TheVariants.{Across as across, Down as down}
use Rattle.books.specs.declared.rule.Rule.{Rule}
use Rattle.books.specs.declared.rule.Body.{Body}
use Rattle.books.specs.declared.rule.Body.TheVariants.{Colour, Across, Down}

-- they reach as far, are cells of the same colours, of those that rules have, and come apart alike at each cut
pub record Alike {X Y : Type 0} (c : Cutting X) (g : Cutting Y) (rules : List Rule) (R : X → Y → Type 0) : Type 0 where
  pub reaches : (d : Dir) (x : X) (y : Y) → R x y → c.reach d x ≡ g.reach d y
  pub cells : (a k : ℕ) (x : X) (y : Y) → Ruled rules a (Colour k) → R x y → c.shown k x ≡ g.shown k y
  pub firsts : (d : Dir) (k : ℕ) (x : X) (y : Y) → R x y → 1 ≤ k → k < c.reach d x → R (c.first d k x) (g.first d k y)
  pub rests : (d : Dir) (k : ℕ) (x : X) (y : Y) → R x y → 1 ≤ k → k < c.reach d x → R (c.rest d k x) (g.rest d k y)

module _ {X Y : Type 0} (c : Cutting X) (g : Cutting Y) (rules : List Rule) (R : X → Y → Type 0) (alike : Alike c g rules R) where
  module _ (s : ℕ → X → Bool) (t : ℕ → Y → Bool) (same : (a : ℕ) (x : X) (y : Y) → R x y → s a x ≡ t a y) (x : X) (y : Y) (h : R x y) where
    cuts-alike : (d : Dir) (l r n : ℕ) → n ≤ c.reach d x - 1 → any_cut c s d l r x n ≡ any_cut g t d l r y n
    unfolding any_cut
    cuts-alike d l r zero i = refl
    cuts-alike d l r (suc n) i =
        let first = same l _ _ (alike.firsts d (suc n) x y h (omega arith) (omega arith)) in
        let rest = same r _ _ (alike.rests d (suc n) x y h (omega arith) (omega arith)) in
        ap₂ (λ (u v : Bool). or_else (and_then u (λ _. v)) (λ _. any_cut c s d l r x n)) first rest
        ∙ ap (λ (v : Bool). or_else (and_then (t l (g.first d (suc n) y)) (λ _. t r (g.rest d (suc n) y))) (λ _. v)) (cuts-alike d l r n (omega arith))

    joins-alike : (d : Dir) (l r : ℕ) → any_cut c s d l r x (c.reach d x - 1) ≡ any_cut g t d l r y (g.reach d y - 1)
    joins-alike d l r =
        cuts-alike d l r (c.reach d x - 1) (omega arith)
        ∙ ap (λ (n : ℕ). any_cut g t d l r y (n - 1)) (alike.reaches d x y h)

    bodies-alike : (a : ℕ) (z : Body) → Ruled rules a z → fits_body c s x z ≡ fits_body g t y z
    unfolding fits_body
    bodies-alike a (Colour k) m = alike.cells a k x y m h
    bodies-alike a (Across l r) m = joins-alike across l r
    bodies-alike a (Down u v) m = joins-alike down u v

    rules-alike : (a : ℕ) (rs : List Rule) → ((r : Rule) → Memᴰ r rs → Memᴰ r rules) → any_rule c s a x rs ≡ any_rule g t a y rs
    unfolding any_rule
    rules-alike a [] i = refl
    rules-alike a (r ∷ rs) i =
        ap₂ (λ (u v : Bool). or_else (and_then (eqb r.head a) (λ _. u)) (λ _. v))
        (bodies-alike r.head r.body (i r (Memᴰ.head refl)))
        (rules-alike a rs (λ q m. i q (Memᴰ.tail m)))

  pub found_alike : (n a : ℕ) (x : X) (y : Y) → R x y → gives_in c rules n a x ≡ gives_in g rules n a y
  unfolding gives_in
  found_alike zero a x y h = refl
  found_alike (suc n) a x y h =
      rules-alike (λ b z. gives_in c rules n b z) (λ b z. gives_in g rules n b z) (λ b w z i. found_alike n b w z i) x y h a rules (λ r m. m)
