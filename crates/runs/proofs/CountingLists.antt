-- Counting, adding and taking the least or the greatest go over a list element by element: of two lists, one after the other, each is made of both.
use Prim.Native.Nat.{ℕ, suc, ◌+◌, ◌*◌, ◌≤◌, ◌<◌, min, max}
use mathlib.Core.Path.{◌≡◌, refl, sym, ap, ◌∙◌}
use mathlib.Core.Bool.{Bool, true, false}
use mathlib.Core.List.Memᴰ
use mathlib.Core.List.{List, [], ◌∷◌, ◌++◌, map, Memᴰ}
use mathlib.Core.Logic.{◌⊎◌, inl, inr, ⊎_elim}
use native.Mathlib.Nat.{suc-mul}
use native.Mathlib.Omega.{arith}
use lib.ListN.{length, get_or, length-append}
use Rattle.names.specs.Pick.{pick}
use Rattle.names.proofs.Tests.{lt-or-le}
use Rattle.runs.specs.Lists.{those, how_many, added_up, any_in, least_in, greatest_in}
use Rattle.runs.specs.inner.Adding.{least_with}

-- ── How many ──

-- one where a test holds
abbrev pub once : Bool → ℕ
once t = pick t 1 0

module _ {A : Type 0} (test : A → Bool) where
  pub those-append : (l m : List A) → those test (l ++ m) ≡ those test l ++ those test m
  unfolding those
  those-append [] m = refl
  those-append (x ∷ l) m = go (test x) (those-append l m)
    where
      go : (t : Bool) → those test (l ++ m) ≡ those test l ++ those test m
          → pick t (x ∷ those test (l ++ m)) (those test (l ++ m)) ≡ pick t (x ∷ those test l) (those test l) ++ those test m
      go true e = ap (λ (r : List A). x ∷ r) e
      go false e = e

  pub how_many-append : (l m : List A) → how_many test (l ++ m) ≡ how_many test l + how_many test m
  unfolding how_many
  how_many-append l m = ap length (those-append l m) ∙ length-append (those test l) (those test m)

  pub how_many-cons : (x : A) (l : List A) → how_many test (x ∷ l) ≡ once (test x) + how_many test l
  unfolding how_many those
  how_many-cons x l = go (test x)
    where
      go : (t : Bool) → length (pick t (x ∷ those test l) (those test l)) ≡ once t + length (those test l)
      go true = omega arith
      go false = omega arith

  pub how_many-none : how_many test [] ≡ 0
  unfolding how_many those
  how_many-none = refl

  pub how_many-one : (x : A) → how_many test (x ∷ []) ≡ once (test x)
  how_many-one x = how_many-cons x [] ∙ omega (arith, how_many-none)

  pub how_many-le : (l : List A) → how_many test l ≤ length l
  how_many-le [] = omega (arith, how_many-none)
  how_many-le (x ∷ l) = omega (arith, how_many-cons x l, how_many-le l, at_most (test x))
    where
      at_most : (t : Bool) → once t ≤ 1
      at_most true = omega arith
      at_most false = omega arith

-- two tests that agree on what two maps give
pub how_many-same : {A B : Type 0} (t : A → Bool) (u : B → Bool) (f : ℕ → A) (h : ℕ → B) (l : List ℕ)
    → ((i : ℕ) → i < length l → t (f (get_or l i 0)) ≡ u (h (get_or l i 0))) → how_many t (map f l) ≡ how_many u (map h l)
how_many-same t u f h [] same = how_many-none t ∙ sym (how_many-none u)
how_many-same t u f h (x ∷ l) same =
    how_many-cons t (f x) (map f l) ∙ rw (same 0 (omega arith), how_many-same t u f h l (λ i g. same (suc i) (omega arith))) (sym (how_many-cons u (h x) (map h l)))

-- ── Sums ──

module _ {A : Type 0} (f : A → ℕ) where
  pub added-append : (l m : List A) → added_up f (l ++ m) ≡ added_up f l + added_up f m
  unfolding added_up
  added-append [] m = omega arith
  added-append (x ∷ l) m = omega (arith, added-append l m)

  pub added-one : (x : A) → added_up f (x ∷ []) ≡ f x
  unfolding added_up
  added-one x = omega arith

  pub added-le : (n : ℕ) (l : List A) → ((x : A) → f x ≤ n) → added_up f l ≤ length l * n
  unfolding added_up
  added-le n [] h = omega arith
  added-le n (x ∷ l) h = omega (arith, added-le n l h, h x, suc-mul (length l) n)

-- ── The least and the greatest ──

pub least_more : (l : List ℕ) (x : ℕ) → least_with (any_in l) (least_in l) x ≡ least_in (l ++ (x ∷ []))
unfolding least_in least_with any_in
least_more [] x = refl
least_more (y ∷ []) x = refl
least_more (y ∷ z ∷ l) x = omega (arith, least_more (z ∷ l) x)

pub greatest-more : (l : List ℕ) (x : ℕ) → max (greatest_in l) x ≡ greatest_in (l ++ (x ∷ []))
unfolding greatest_in
greatest-more [] x = omega arith
greatest-more (y ∷ l) x = omega (arith, greatest-more l x)

pub any-more : {A : Type 0} (l : List A) (x : A) → 1 ≡ any_in (l ++ (x ∷ []))
unfolding any_in
any-more [] x = refl
any-more (y ∷ l) x = refl

-- some element of a list bounds all of it
pub record Bounds (R : ℕ → ℕ → Type 0) (l : List ℕ) (n : ℕ) : Type 0 where
  pub member : Memᴰ n l
  pub bounds : (x : ℕ) → Memᴰ x l → R n x

-- one element more: of it and what bounds the others the one that bounds the other bounds all
module _ (R : ℕ → ℕ → Type 0) (on : (m n x : ℕ) → R m n → R n x → R m x) where
  bounds-one : (x m : ℕ) → m ≡ x → R m x → Bounds R (x ∷ []) m
  bounds-one x m e h =
      record {
        member = Memᴰ.head e;
        bounds = λ y u. ⊎_elim (λ d. rw d h) (λ v. absurd (Memᴰ.not-nil v)) (Memᴰ.cases_cons u);
      }

  bounds-more : (x : ℕ) (l : List ℕ) (n m : ℕ) → Bounds R l n → (m ≡ x) ⊎ (m ≡ n) → R m x → R m n → Bounds R (x ∷ l) m
  bounds-more x l n m rest one h g =
      record {
        member = ⊎_elim (λ e. Memᴰ.head e) (λ e. Memᴰ.cast e (Memᴰ.tail rest.member)) one;
        bounds = λ y u. ⊎_elim (λ d. rw d h) (λ v. on m n y g (rest.bounds y v)) (Memᴰ.cases_cons u);
      }

pub least-bounds : (x : ℕ) (l : List ℕ) → Bounds (λ n y. n ≤ y) (x ∷ l) (least_in (x ∷ l))
unfolding least_in
least-bounds x [] = bounds-one _ (λ m n y h g. omega arith) x x refl (omega arith)
least-bounds x (y ∷ l) =
    let n = least_in (y ∷ l) in
    bounds-more _ (λ m n y h g. omega arith) x (y ∷ l) n (min x n) (least-bounds y l)
    (⊎_elim (λ h. inl (omega arith)) (λ h. inr (omega arith)) (lt-or-le x n)) (omega arith) (omega arith)

pub greatest-bounds : (x : ℕ) (l : List ℕ) → Bounds (λ n y. y ≤ n) (x ∷ l) (greatest_in (x ∷ l))
unfolding greatest_in
greatest-bounds x [] = bounds-one _ (λ m n y h g. omega arith) x (max x 0) (omega arith) (omega arith)
greatest-bounds x (y ∷ l) =
    let n = greatest_in (y ∷ l) in
    bounds-more _ (λ m n y h g. omega arith) x (y ∷ l) n (max x n) (greatest-bounds y l)
    (⊎_elim (λ h. inr (omega arith)) (λ h. inl (omega arith)) (lt-or-le x n)) (omega arith) (omega arith)
