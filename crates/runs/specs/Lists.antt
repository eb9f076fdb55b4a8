-- What is counted, added up, or taken as the least and the greatest over a list.
use Rattle.std.specs.Prelude.{ℕ, ◌+◌, min, max, Bool, List, [], ◌∷◌, length}
use Rattle.names.specs.Pick.{pick}

-- those of a list that pass a test, in order
unfoldable pub those : {A : Type 0} → (A → Bool) → List A → List A
those test [] = []
those test (x ∷ xs) = pick (test x) (x ∷ those test xs) (those test xs)

-- and how many they are
unfoldable pub how_many : {A : Type 0} → (A → Bool) → List A → ℕ
how_many test l = length (those test l)

-- the sum of what each has
unfoldable pub added_up : {A : Type 0} → (A → ℕ) → List A → ℕ
added_up f [] = 0
added_up f (x ∷ xs) = f x + added_up f xs

-- 1 where there is something in it, and else 0
unfoldable pub any_in : {A : Type 0} → List A → ℕ
any_in [] = 0
any_in (x ∷ l) = 1

-- the least of a list, and the greatest; 0 where it is empty
unfoldable pub least_in : List ℕ → ℕ
least_in [] = 0
least_in (x ∷ []) = x
least_in (x ∷ y ∷ l) = min x (least_in (y ∷ l))

unfoldable pub greatest_in : List ℕ → ℕ
greatest_in [] = 0
greatest_in (x ∷ l) = max x (greatest_in l)
