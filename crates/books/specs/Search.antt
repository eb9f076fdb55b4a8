-- What rules give, and the plain search over rules and cuts, of whatever comes apart across and down: pictures, sizes, or the pieces of a sheet.
use Rattle.std.specs.Prelude.{ℕ, zero, suc, ◌-◌, ◌≤◌, ◌<◌, ◌≡◌, Bool, true, false, ◌↔◌, eqb}
use mathlib.Core.List.{List, [], ◌∷◌, Memᴰ}
use Rattle.names.specs.Pick.{and_then, or_else}
use Rattle.books.specs.Picture.{joins}
use Rattle.books.specs.declared.rule.Dir.TheVariants.{Across as across, Down as down}
use Rattle.books.specs.declared.rule.Dir.{Dir}
use Rattle.books.specs.declared.rule.Rule.{Rule}
use Rattle.books.specs.declared.rule.Body.{Body}
use Rattle.books.specs.declared.rule.Body.TheVariants.{Colour, Across, Down}

-- how far a thing reaches in a direction, its first k columns or rows, the rest, and when it is one cell of a colour of the book, said and computed
pub record Cutting (X : Type 0) : Type 1 where
  pub reach : Dir → X → ℕ
  pub first : Dir → ℕ → X → X
  pub rest : Dir → ℕ → X → X
  pub Shows : ℕ → X → Type 0
  pub shown : ℕ → X → Bool

abbrev pub Ruled : List Rule → ℕ → Body → Type 0
Ruled rules a x = Memᴰ (record { head = a; body = x }) rules

-- what the rules give a motif: a cell of a colour, or a join of what they give its two motifs
pub data Gives {X : Type 0} (c : Cutting X) (rules : List Rule) : ℕ → X → Type 0 where
  paint : {a : ℕ} {x : X} (k : ℕ) → Ruled rules a (Colour k) → c.Shows k x → Gives c rules a x
  join : {a : ℕ} {x : X} (d : Dir) (l r k : ℕ) → Ruled rules a (joins d l r) → 1 ≤ k → k < c.reach d x
      → Gives c rules l (c.first d k x) → Gives c rules r (c.rest d k x) → Gives c rules a x

-- a cut at n, or below it, of which t accepts both parts
unfoldable pub any_cut : {X : Type 0} → Cutting X → (ℕ → X → Bool) → Dir → ℕ → ℕ → X → ℕ → Bool
any_cut c t d l r x zero = false
any_cut c t d l r x (suc n) =
    or_else (and_then (t l (c.first d (suc n) x)) (λ _. t r (c.rest d (suc n) x))) (λ _. any_cut c t d l r x n)

unfoldable pub fits_body : {X : Type 0} → Cutting X → (ℕ → X → Bool) → X → Body → Bool
fits_body c t x (Colour k) = c.shown k x
fits_body c t x (Across l r) = any_cut c t across l r x (c.reach across x - 1)
fits_body c t x (Down u v) = any_cut c t down u v x (c.reach down x - 1)

unfoldable pub any_rule : {X : Type 0} → Cutting X → (ℕ → X → Bool) → ℕ → X → List Rule → Bool
any_rule c t a x [] = false
any_rule c t a x (r ∷ rs) = or_else (and_then (eqb r.head a) (λ _. fits_body c t x r.body)) (λ _. any_rule c t a x rs)

-- the search, with a bound on its depth
unfoldable pub gives_in : {X : Type 0} → Cutting X → List Rule → ℕ → ℕ → X → Bool
gives_in c rules zero a x = false
gives_in c rules (suc n) a x = any_rule c (λ y z. gives_in c rules n y z) a x rules

-- the test of a cell is right, and a measure that no cell has 0 of falls at each cut
pub record Lessens {X : Type 0} (c : Cutting X) (bulk : X → ℕ) : Type 0 where
  pub tested : (k : ℕ) (x : X) → (c.shown k x ≡ true) ↔ c.Shows k x
  pub first_less : (d : Dir) (k : ℕ) (x : X) → 1 ≤ k → k < c.reach d x → bulk (c.first d k x) < bulk x
  pub rest_less : (d : Dir) (k : ℕ) (x : X) → 1 ≤ k → k < c.reach d x → bulk (c.rest d k x) < bulk x
  pub cell_some : (k : ℕ) (x : X) → c.Shows k x → 1 ≤ bulk x
