-- Names are the same exactly when they are equal, from the front or from the back: the test goes byte by byte, and is true only where both names end.
use mathlib.Core.Path.{◌≡◌, refl, sym, ◌∙◌, ap, ap₂}
use mathlib.Core.Bool.{Bool, true, false, true≢false}
use mathlib.Core.List.{[], ◌∷◌}
use mathlib.Core.Logic.{◌↔◌}
use lib.Dec.{eqb}
use borrow.Author.Tests.{eqb-true, eq-eqb}
use Rattle.std.specs.Prelude.{reverse}
use Rattle.std.specs.Bool.{Decides}
use Rattle.std.proofs.lemmas.List.{reverse-reverse}
use Rattle.names.specs.Pick.{pick}
use Rattle.names.specs.Name.{Name, same_name}
use Rattle.names.proofs.Picking.{pick_ind}
use Rattle.names.proofs.Tests.{not-true-false, both_ways}

pub same_name-refl : (x : Name) → same_name x x ≡ true
unfolding same_name
same_name-refl [] = refl
same_name-refl (x ∷ xs) = ap₂ (λ (s t : Bool). pick s t false) (eq-eqb x x refl) (same_name-refl xs)

pub same_name-true : (x y : Name) → same_name x y ≡ true → x ≡ y
unfolding same_name
same_name-true [] [] e = refl
same_name-true [] (y ∷ ys) e = cc
same_name-true (x ∷ xs) [] e = cc
same_name-true (x ∷ xs) (y ∷ ys) e =
    pick_ind (λ (t : Bool). t ≡ true → x ∷ xs ≡ y ∷ ys) (eqb x y) (same_name xs ys) false
    (λ h t. ap₂ ◌∷◌ (eqb-true x y h) (same_name-true xs ys t))
    (λ _ t. cc)
    e

pub same_name_lem : (x y : Name) → (same_name x y ≡ true) ↔ (x ≡ y)
same_name_lem x y = (same_name-true x y, λ e. rw e (same_name-refl y))

-- Different names are told apart.
pub other_name : (x y : Name) → (same_name x y ≡ false) ↔ (x ≡ y → ⊥)
other_name x y = (
  λ e q. true≢false (sym ((same_name_lem x y).1 q) ∙ e),
  λ f. not-true-false (same_name x y) (λ e. f (same_name-true x y e)),
)

-- Names are the same exactly when they are equal from the back.
pub same_back : (x y : Name) (r : Bool) → Decides r (reverse x ≡ reverse y) → r ≡ same_name x y
same_back x y r d = both_ways r (same_name x y)
    (λ e. (same_name_lem x y).1 (sym (reverse-reverse x) ∙ ap reverse (d.0 e) ∙ reverse-reverse y))
    (λ e. d.1 (ap reverse (same_name-true x y e)))
