-- Lists in which nothing stands twice: one after the other they are such a list where nothing stands in both, and each part of such a list is one.
use mathlib.Core.Path.{refl, sym}
use mathlib.Core.List.Memᴰ
use mathlib.Core.List.{List, [], ◌∷◌, ◌++◌, Memᴰ}
use mathlib.Core.Logic.{⊎_elim}
use Rattle.names.specs.Spelling.{Distinct}

pub distinct_append : {A : Type 0} (xs ys : List A) → Distinct xs → Distinct ys → ((x : A) → Memᴰ x xs → Memᴰ x ys → ⊥) → Distinct (xs ++ ys)
distinct_append [] ys p q none = q
distinct_append (x ∷ xs) ys p q none = (
  λ m. ⊎_elim p.0 (none x (Memᴰ.head refl)) (Memᴰ.append_cases xs m),
  distinct_append xs ys p.1 q (λ y m. none y (Memᴰ.tail m)),
)

-- one thing alone, and one thing more
pub distinct-one : {A : Type 0} (x : A) → Distinct (x ∷ [])
distinct-one x = (Memᴰ.not-nil, tt)

pub distinct_more : {A : Type 0} (xs : List A) (x : A) → Distinct xs → (Memᴰ x xs → ⊥) → Distinct (xs ++ (x ∷ []))
distinct_more xs x p new = distinct_append xs (x ∷ []) p (distinct-one x) (λ y m u. new (Memᴰ.cast (sym (Memᴰ.eq_of_singleton u)) m))

pub distinct-less : {A : Type 0} (xs ys : List A) → Distinct (xs ++ ys) → Distinct xs
distinct-less [] ys p = tt
distinct-less (x ∷ xs) ys p = (λ m. p.0 (Memᴰ.append_left ys m), distinct-less xs ys p.1)

-- nothing stands before itself
pub distinct-new : {A : Type 0} (xs : List A) (x : A) (ys : List A) → Distinct (xs ++ (x ∷ ys)) → Memᴰ x xs → ⊥
distinct-new [] x ys p m = Memᴰ.not-nil m
distinct-new (z ∷ xs) x ys p m =
    ⊎_elim (λ e. p.0 (Memᴰ.cast (sym e) (Memᴰ.append_right xs (Memᴰ.head refl)))) (distinct-new xs x ys p.1) (Memᴰ.cases_cons m)
