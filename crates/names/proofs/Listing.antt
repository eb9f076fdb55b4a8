-- The number of a name is that of the first such name in the list, and the list's length exactly where the name does not stand there:
-- the search compares one name after the other, and the test is equality.
use Prim.Native.Nat.{ℕ, zero, suc, ◌≤◌, ◌<◌}
use mathlib.Core.Path.{◌≡◌, refl, sym, ◌∙◌, ap}
use mathlib.Core.Bool.{true}
use mathlib.Core.List.Memᴰ
use mathlib.Core.List.{List, [], ◌∷◌, ◌++◌, Memᴰ}
use mathlib.Core.Logic.{◌↔◌, ⊎_elim}
use native.Mathlib.Nat.{eq-or-lt_of_le}
use native.Mathlib.Omega.{arith}
use lib.Dec.{ltb}
use lib.ListN.{length, get_or}
use borrow.Author.Tests.{ltb-true, lt-ltb}
use Rattle.names.specs.Name.{Name, same_name, listed}
use Rattle.names.specs.Spelling.{Distinct}
use Rattle.names.proofs.Picking.{pick_ind}
use Rattle.names.proofs.SameNames.{same_name-true, other_name}

pub get_or-mem {ℓ} : {A : Type ℓ} (l : List A) (i : ℕ) (d : A) → i < length l → Memᴰ (get_or l i d) l
get_or-mem [] i d h = absurd (omega arith)
get_or-mem (x ∷ xs) zero d h = Memᴰ.head refl
get_or-mem (x ∷ xs) (suc i) d h = Memᴰ.tail (get_or-mem xs i d (omega arith))

-- What holds of 0 where the first name is the one looked for, and of one more than the number in the others where it is not, holds of the number.
listed_cons : (P : ℕ → Type 0) (x : Name) (xs : List Name) (n : Name)
    → (n ≡ x → P 0) → ((n ≡ x → ⊥) → P (suc (listed xs n))) → P (listed (x ∷ xs) n)
unfolding listed
listed_cons P x xs n here there =
    pick_ind P (same_name x n) 0 (suc (listed xs n))
    (λ e. here (sym (same_name-true x n e)))
    (λ e. there (λ q. (other_name x n).0 e (sym q)))

pub listed_le : (l : List Name) (n : Name) → listed l n ≤ length l
unfolding listed
listed_le [] n = omega arith
listed_le (x ∷ xs) n = listed_cons (λ k. k ≤ suc (length xs)) x xs n (λ e. omega arith) (λ d. omega (arith, listed_le xs n))

pub listed_found : (l : List Name) (n : Name) → Memᴰ n l → (listed l n < length l) × (get_or l (listed l n) [] ≡ n)
listed_found [] n m = absurd (Memᴰ.not-nil m)
listed_found (x ∷ xs) n m =
    listed_cons (λ k. (k < suc (length xs)) × (get_or (x ∷ xs) k [] ≡ n)) x xs n
    (λ e. (omega arith, sym e))
    (λ d. ⊎_elim
    (λ e. absurd (d e))
    (λ u. let (h, e) = listed_found xs n u in (omega arith, e))
    (Memᴰ.cases_cons m))

pub listed-mem : (l : List Name) (n : Name) → listed l n < length l → Memᴰ n l
unfolding listed
listed-mem [] n = λ h. absurd (omega arith)
listed-mem (x ∷ xs) n =
    listed_cons (λ k. k < suc (length xs) → Memᴰ n (x ∷ xs)) x xs n
    (λ e _. Memᴰ.head e)
    (λ d h. Memᴰ.tail (listed-mem xs n (omega arith)))

-- Whether a name stands in a list is tested by its number.
pub listed-test : (l : List Name) (n : Name) → (ltb (listed l n) (length l) ≡ true) ↔ Memᴰ n l
listed-test l n = (λ e. listed-mem l n (ltb-true _ _ e), λ m. lt-ltb _ _ (listed_found l n m).0)

pub listed-none : (l : List Name) (n : Name) → (Memᴰ n l → ⊥) ↔ (listed l n ≡ length l)
listed-none l n = (
  λ none. ⊎_elim (λ e. e) (λ h. absurd (none (listed-mem l n h))) (eq-or-lt_of_le (listed_le l n)),
  λ e m. omega (arith, (listed_found l n m).0),
)

-- The first name's number is 0, and every other name's is one more than in the names after it.
pub listed_here : (x : Name) (xs : List Name) (n : Name) → n ≡ x → listed (x ∷ xs) n ≡ 0
listed_here x xs n e = listed_cons (λ k. k ≡ 0) x xs n (λ _. refl) (λ d. absurd (d e))

pub listed-later : (x : Name) (xs : List Name) (n : Name) → (n ≡ x → ⊥) → listed (x ∷ xs) n ≡ suc (listed xs n)
listed-later x xs n d = listed_cons (λ k. k ≡ suc (listed xs n)) x xs n (λ e. absurd (d e)) (λ _. refl)

-- In two lists, one after the other: its number in the first, where it stands there, and else past the first.
pub listed-first : (l m : List Name) (n : Name) → Memᴰ n l → listed (l ++ m) n ≡ listed l n
listed-first [] m n h = absurd (Memᴰ.not-nil h)
listed-first (x ∷ xs) m n h =
    listed_cons (λ k. listed (x ∷ (xs ++ m)) n ≡ k) x xs n
    (listed_here x (xs ++ m) n)
    (λ d. listed-later x (xs ++ m) n d
    ∙ ap suc (⊎_elim (λ e. absurd (d e)) (listed-first xs m n) (Memᴰ.cases_cons h)))

-- In a list of distinct names each has its own number.
pub listed-own : (l : List Name) (i : ℕ) → Distinct l → i < length l → listed l (get_or l i []) ≡ i
listed-own [] i apart h = absurd (omega arith)
listed-own (x ∷ xs) zero apart h = listed_here x xs x refl
listed-own (x ∷ xs) (suc i) apart h =
    listed-later x xs (get_or xs i []) (λ e. apart.0 (Memᴰ.cast (sym e) (get_or-mem xs i [] (omega arith))))
    ∙ ap suc (listed-own xs i apart.1 (omega arith))
