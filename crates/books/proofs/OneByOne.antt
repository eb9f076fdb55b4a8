-- Reading goes on from what was read so far of things in turn: each step takes one of them, so that as many are left as the count says.
use Prim.Native.Nat.{ℕ, zero, suc, ◌+◌, ◌-◌, ◌<◌, ◌≤◌}
use mathlib.Core.Path.{◌≡◌, refl, ◌∙◌, ap, sym, subst}
use mathlib.Core.List.{List, [], ◌∷◌, ◌++◌}
use native.Mathlib.Omega.{arith}
use lib.ListN.{length, set, length-append}
use Rattle.books.specs.InTurn.{InTurn, none_yet, one_more}

-- `reading ys i at k` is what is found with k of them left from a place on, the next of them the i-th, where ys holds those before it, as `Held` says; what was
-- read so far is `Good`
module _ {A R : Type 0} (Stands : ℕ → A → ℕ → Type 0) (Good : List A → Type 0) (Held : List A → List A → Type 0) (reading : List A → ℕ → ℕ → ℕ → R)
    (count : ℕ) (more : (xs ys : List A) (x : A) → length xs < count → Held xs ys → Held (xs ++ (x ∷ [])) (set ys (length xs) x)) where
  pub record Left (r : R) (xs : List A) (at : ℕ) : Type 0 where
    pub places : List A
    pub held : Held xs places
    pub on : r ≡ reading places (length xs) at (count - length xs)

  -- what is found from the first on is what is found from here on
  pub in-turn-on : ((xs : List A) (x : A) → Good (xs ++ (x ∷ [])) → Good xs)
      → ((xs ys : List A) (at k : ℕ) (x : A) (next : ℕ) → Held xs ys → Good (xs ++ (x ∷ [])) → Stands at x next
      → reading ys (length xs) at (suc k) ≡ reading (set ys (length xs) x) (length xs + 1) next k)
      → (r : R) (first : List A) (from : ℕ) → Held [] first → r ≡ reading first 0 from count → {xs : List A} {at : ℕ} → InTurn Stands from xs at → Good xs
      → length xs ≤ count → Left r xs at
  in-turn-on less step r first from begun whole {xs} {at} (none_yet e a) good few =
      let none : length xs ≡ 0 = ap length e in
      let all : count - length xs ≡ count = omega arith in
      record { places = first; held = subst (λ (l : List A). Held l first) (sym e) begun; on = cc }
  in-turn-on less step r first from begun whole {xs} {at} (one_more before x there row here e) good few =
      let longer : length xs ≡ length before + 1 = ap length e ∙ length-append before (x ∷ []) in
      let left : count - length before ≡ suc (count - length xs) = omega arith in
      let so_far : Good (before ++ (x ∷ [])) = subst Good e good in
      let o = in-turn-on less step r first from begun whole row (less before x so_far) (omega arith) in
      let one = step before o.places there (count - length xs) x at o.held so_far here in
      record {
        places = set o.places (length before) x;
        held = subst (λ (l : List A). Held l (set o.places (length before) x)) (sym e) (more before o.places x (omega arith) o.held);
        on = cc o.on;
      }

  -- what holds at the end, and of each step where it holds of what follows, holds of what is found from the first on
  module _ (Out : R → Type 0) (from : ℕ)
      (ends : (xs ys : List A) (at : ℕ) → InTurn Stands from xs at → Good xs → length xs ≡ count → Out (reading ys count at 0))
      (goes : (xs ys : List A) (at k : ℕ) → InTurn Stands from xs at → Good xs → Held xs ys → length xs < count
      → ((x : A) (next : ℕ) → Stands at x next → Good (xs ++ (x ∷ [])) → Out (reading (set ys (length xs) x) (length xs + 1) next k))
      → Out (reading ys (length xs) at (suc k))) where
    in-turn-left : (k : ℕ) (xs ys : List A) (i at : ℕ) → InTurn Stands from xs at → Good xs → Held xs ys → i ≡ length xs → i + k ≡ count → Out (reading ys i at k)
    in-turn-left zero xs ys i at r good held e h =
        let all : count ≡ i = omega arith in
        subst (λ (n : ℕ). Out (reading ys n at 0)) all (ends xs ys at r good (omega arith))
    in-turn-left (suc k) xs ys i at r good held e h =
        subst (λ (n : ℕ). Out (reading ys n at (suc k))) (sym e)
        (goes xs ys at k r good held (omega arith)
        (λ x next here new. in-turn-left k (xs ++ (x ∷ [])) (set ys (length xs) x) (length xs + 1) next (one_more xs x at r here refl) new
        (more xs ys x (omega arith) held) (omega (arith, length-append xs (x ∷ []))) (omega arith)))

    pub in-turn-out : (first : List A) → Good [] → Held [] first → Out (reading first 0 from count)
    in-turn-out first good held = in-turn-left count [] first 0 from (none_yet refl refl) good held refl (omega arith)
