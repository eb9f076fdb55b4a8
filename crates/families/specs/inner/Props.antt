-- Facts by cases hold in one way.
use mathlib.Core.List.{List, [], ◌∷◌}
use Rattle.std.specs.Prelude.{ℕ}
use Rattle.std.specs.Coded.{×_prop, →_prop, Unit-prop, le_prop}
use Rattle.names.specs.Spelling.{Distinct}
use Rattle.books.specs.Keeps.{BodyFits}
use Rattle.books.specs.declared.rule.Body.{Body}
use Rattle.books.specs.declared.rule.Body.TheVariants.{Colour, Across, Down}

pub BodyFits-prop : (m n : ℕ) (b : Body) → IsProp (BodyFits m n b)
BodyFits-prop m n (Colour c) = le_prop
BodyFits-prop m n (Across l r) = ×_prop le_prop le_prop
BodyFits-prop m n (Down u v) = ×_prop le_prop le_prop

pub Distinct-prop : {A : Type 0} (xs : List A) → IsProp (Distinct xs)
Distinct-prop [] = Unit-prop
Distinct-prop (x ∷ xs) = ×_prop (→_prop (λ a b. absurd a)) (Distinct-prop xs)
