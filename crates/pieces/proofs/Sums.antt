-- Sums and lists over 0 .. n - 1: where a block of such a list starts, and what stands at a place of it.
use mathlib.Core.Path.{◌≡◌, refl, sym, ◌∙◌, subst}
use mathlib.Core.List.Memᴰ
use mathlib.Core.List.{List, ◌++◌, Memᴰ}
use mathlib.Core.Logic.{⊎_elim}
use Prim.Native.Nat.{ℕ, zero, suc, ◌+◌, ◌-◌, ◌*◌, ◌≤◌, ◌<◌}
use native.Mathlib.Nat.{suc-mul, mul-add, zero-mul, mul-zero}
use native.Mathlib.Numerals.{add-one}
use native.Mathlib.Omega.{arith}
use native.Mathlib.Decide.{ℕ_discrete, dec_lt}
use lib.ListN.{length, get_or, length-append, get_or-append}
use lib.Seq.{get_or-append-add}
use Rattle.names.specs.Counted.{each}

-- f 0 + f 1 + .. + f (n - 1).
unfoldable pub sum : ℕ → (ℕ → ℕ) → ℕ
sum zero f = 0
sum (suc n) f = sum n f + f n

pub sum-next : (n : ℕ) (f : ℕ → ℕ) → sum (n + 1) f ≡ sum n f + f n
unfolding sum
sum-next n f = rw add-one

pub sum_mono : (f : ℕ → ℕ) (i k : ℕ) → i ≤ k → sum i f ≤ sum k f
unfolding sum
sum_mono f i zero h = let e : i ≡ 0 = omega arith in rw e (omega arith)
sum_mono f i (suc k) h = go (λ l. sum_mono f i k l) (ℕ_discrete i (suc k))
  where
    go : (i ≤ k → sum i f ≤ sum k f) → Dec (i ≡ suc k) → sum i f ≤ sum k f + f k
    go ih (yes e) = rw e (omega arith)
    go ih (no n) = let l : sum i f ≤ sum k f = ih (omega arith) in omega arith

-- A place within block i comes before every later block.
pub sum_below : (f : ℕ → ℕ) (i k j : ℕ) → i < k → j < f i → sum i f + j < sum k f
sum_below f i k j h l =
    let a : sum (i + 1) f ≤ sum k f = sum_mono f (i + 1) k (omega arith) in
    omega (arith, sum-next i f)

-- Every place lies in some block.
pub sum-find : (f : ℕ → ℕ) (n i : ℕ) → i < sum n f → (r : ℕ) × (j : ℕ) × (r < n) × (j < f r) × (i ≡ sum r f + j)
unfolding sum
sum-find f zero i h = absurd (omega arith)
sum-find f (suc n) i h = go (λ l. sum-find f n i l) (dec_lt i (sum n f))
  where
    go : (i < sum n f → (r : ℕ) × (j : ℕ) × (r < n) × (j < f r) × (i ≡ sum r f + j)) → Dec (i < sum n f)
        → (r : ℕ) × (j : ℕ) × (r < suc n) × (j < f r) × (i ≡ sum r f + j)
    go ih (yes l) = let v = ih l in let b : v.0 < n = v.2 in (v.0, v.1, omega arith, v.3, v.4)
    go ih (no l) = (n, i - sum n f, omega arith, omega arith, omega arith)

-- What is the same of each number below n has the same sum.
pub sum_same : (f g : ℕ → ℕ) (n : ℕ) → ((i : ℕ) → i < n → f i ≡ g i) → sum n f ≡ sum n g
unfolding sum
sum_same f g zero h = refl
sum_same f g (suc n) h = omega (arith, sum_same f g n (λ i l. h i (omega arith)), h n (omega arith))

pub sum-const : (c n : ℕ) → sum n (λ i. c) ≡ n * c
unfolding sum
sum-const c zero = sym (zero-mul c)
sum-const c (suc n) = omega (arith, sum-const c n, suc-mul n c)

pub sum-scale : (c : ℕ) (f : ℕ → ℕ) (n : ℕ) → sum n (λ i. c * f i) ≡ c * sum n f
unfolding sum
sum-scale c f zero = sym (mul-zero c)
sum-scale c f (suc n) = omega (arith, sum-scale c f n, mul-add c (sum n f) (f n))

pub sum-plus : (f g : ℕ → ℕ) (n : ℕ) → sum n (λ i. f i + g i) ≡ sum n f + sum n g
unfolding sum
sum-plus f g zero = refl
sum-plus f g (suc n) = omega (arith, sum-plus f g n)

-- From the first on.
pub sum_first : (f : ℕ → ℕ) (n : ℕ) → sum (suc n) f ≡ f 0 + sum n (λ i. f (suc i))
unfolding sum
sum_first f zero = omega arith
sum_first f (suc n) = omega (arith, sum_first f n)

-- The list of blocks f 0, f 1, .., of g 0, g 1, .. elements.
module _ {A : Type 0} (f : ℕ → List A) (g : ℕ → ℕ) (sized : (i : ℕ) → length (f i) ≡ g i) where
  pub length-each : (n : ℕ) → length (each n f) ≡ sum n g
  unfolding each sum
  length-each zero = refl
  length-each (suc n) = omega (arith, length-each n, length-append (each n f) (f n), sized n)

  pub get_or-each : (n i j : ℕ) (d : A) → i < n → j < g i → get_or (each n f) (sum i g + j) d ≡ get_or (f i) j d
  unfolding each
  get_or-each zero i j d h l = absurd (omega arith)
  get_or-each (suc n) i j d h l = go (λ k. get_or-each n i j d k l) (ℕ_discrete i n)
    where
      go : (i < n → get_or (each n f) (sum i g + j) d ≡ get_or (f i) j d) → Dec (i ≡ n)
          → get_or (each n f ++ f n) (sum i g + j) d ≡ get_or (f i) j d
      go ih (yes e) = rw (e, ← length-each n) (get_or-append-add (each n f) (f n) j d)
      go ih (no ne) =
          let b : sum i g + j < sum n g = sum_below g i n j (omega arith) l in
          get_or-append (each n f) (f n) d (sum i g + j) (omega (arith, length-each n)) ∙ ih (omega arith)

-- A member of the list stands in a block.
pub member-each : {A : Type 0} (f : ℕ → List A) (n : ℕ) {a : A} → Memᴰ a (each n f) → (i : ℕ) × (i < n) × Memᴰ a (f i)
unfolding each
member-each f zero h = absurd (Memᴰ.not-nil h)
member-each f (suc n) h =
    ⊎_elim (λ x. let v = member-each f n x in let l : v.0 < n = v.1 in (v.0, omega arith, v.2)) (λ x. (n, omega arith, x))
    (Memᴰ.append_cases (each n f) h)

-- What stands in a block is a member of the list.
pub each_member : {A : Type 0} (f : ℕ → List A) (n i : ℕ) {a : A} → i < n → Memᴰ a (f i) → Memᴰ a (each n f)
unfolding each
each_member f zero i h m = absurd (omega arith)
each_member f (suc n) i {a} h m = go (λ l. each_member f n i l m) (ℕ_discrete i n)
  where
    go : (i < n → Memᴰ a (each n f)) → Dec (i ≡ n) → Memᴰ a (each n f ++ f n)
    go ih (yes e) = Memᴰ.append_right (each n f) (subst (λ (k : ℕ). Memᴰ a (f k)) e m)
    go ih (no l) = Memᴰ.append_left (f n) (ih (omega arith))
