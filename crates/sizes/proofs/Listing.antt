-- What stands in a list that is made place by place, and when nothing stands in it twice.
use Prim.Native.Nat.{ℕ, zero, suc, ◌<◌}
use mathlib.Core.Path.{◌≡◌, refl, sym, ap, ◌∙◌, subst}
use mathlib.Core.List.Memᴰ
use mathlib.Core.List.{List, [], ◌∷◌, ◌++◌, Memᴰ}
use mathlib.Core.Logic.{⊎_elim}
use native.Mathlib.Decide.{ℕ_discrete}
use native.Mathlib.Omega.{arith}
use lib.ListN.{length, get_or, length-append, get_or-append}
use lib.Seq.{get_or_at}
use Rattle.names.specs.Counted.{each}
use Rattle.names.specs.Spelling.{Distinct}
use Rattle.names.proofs.Listing.{get_or-mem}
use Rattle.names.proofs.NothingTwice.{distinct_append}

-- ── One number at each place ──

module _ (f : ℕ → ℕ) where
  pub each-length : (n : ℕ) → length (each n (λ i. f i ∷ [])) ≡ n
  unfolding each
  each-length zero = refl
  each-length (suc n) = omega (arith, length-append (each n (λ i. f i ∷ [])) (f n ∷ []), each-length n)

  pub each_at : (n i : ℕ) → i < n → get_or (each n (λ i. f i ∷ [])) i 0 ≡ f i
  unfolding each
  each_at zero i h = absurd (omega arith)
  each_at (suc n) i h = go (λ l. each_at n i l) (ℕ_discrete i n)
    where
      go : (i < n → get_or (each n (λ i. f i ∷ [])) i 0 ≡ f i) → Dec (i ≡ n) → get_or (each n (λ i. f i ∷ []) ++ (f n ∷ [])) i 0 ≡ f i
      go ih (yes e) = get_or_at (each n (λ i. f i ∷ [])) (f n) [] 0 i (each-length n ∙ sym e) ∙ ap f (sym e)
      go ih (no ne) = get_or-append (each n (λ i. f i ∷ [])) (f n ∷ []) 0 i (omega (arith, each-length n)) ∙ ih (omega arith)

-- ── Members ──

module _ {A : Type 0} (f : ℕ → List A) (x : A) where
  pub each-has : (n : ℕ) → Memᴰ x (each n f) → (i : ℕ) × (i < n) × Memᴰ x (f i)
  unfolding each
  each-has zero m = absurd (Memᴰ.not-nil m)
  each-has (suc n) m =
      ⊎_elim (λ u. let (i, h, v) = each-has n u in (i, omega arith, v)) (λ u. (n, omega arith, u)) (Memᴰ.append_cases (each n f) m)

  pub has-each : (n i : ℕ) → i < n → Memᴰ x (f i) → Memᴰ x (each n f)
  unfolding each
  has-each zero i h m = absurd (omega arith)
  has-each (suc n) i h m = go (λ l. has-each n i l m) (ℕ_discrete i n)
    where
      go : (i < n → Memᴰ x (each n f)) → Dec (i ≡ n) → Memᴰ x (each n f ++ f n)
      go ih (yes e) = Memᴰ.append_right (each n f) (subst (λ (k : ℕ). Memᴰ x (f k)) e m)
      go ih (no ne) = Memᴰ.append_left (f n) (ih (omega arith))

-- ── Nothing twice ──

-- what each number gives has nothing twice, and no two numbers give the same
pub apart-each : {A : Type 0} (f : ℕ → List A) → ((i : ℕ) → Distinct (f i)) → ((i j : ℕ) (x : A) → Memᴰ x (f i) → Memᴰ x (f j) → i ≡ j)
    → (n : ℕ) → Distinct (each n f)
unfolding each
apart-each f each_apart one zero = tt
apart-each f each_apart one (suc n) =
    distinct_append (each n f) (f n) (apart-each f each_apart one n) (each_apart n)
    (λ x m u. let (i, h, v) = each-has f x n m in omega (arith, one i n x v u))

-- two places that have the same are one place
pub apart-places : {A : Type 0} (l : List A) → Distinct l → (d : A) (i j : ℕ) → i < length l → j < length l → get_or l i d ≡ get_or l j d → i ≡ j
apart-places [] p d i j h g e = absurd (omega arith)
apart-places (x ∷ xs) p d zero zero h g e = refl
apart-places (x ∷ xs) p d zero (suc j) h g e = absurd (p.0 (Memᴰ.cast e (get_or-mem xs j d (omega arith))))
apart-places (x ∷ xs) p d (suc i) zero h g e = absurd (p.0 (Memᴰ.cast (sym e) (get_or-mem xs i d (omega arith))))
apart-places (x ∷ xs) p d (suc i) (suc j) h g e = ap suc (apart-places xs p.1 d i j (omega arith) (omega arith) e)
