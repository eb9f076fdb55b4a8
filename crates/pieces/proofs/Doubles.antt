-- Nothing stands twice in a list of blocks where nothing stands twice in a block, and no two blocks have anything in common.
use mathlib.Core.Path.{◌≡◌, refl, subst}
use mathlib.Core.List.Memᴰ
use mathlib.Core.List.{List, [], ◌∷◌, ◌++◌, flat_map, Memᴰ}
use mathlib.Core.Logic.{⊎_elim}
use Prim.Native.Nat.{ℕ, zero, suc, ◌<◌}
use native.Mathlib.Omega.{arith}
use Rattle.names.specs.Counted.{each}
use Rattle.pieces.specs.Trials.{Once}
use Rattle.pieces.proofs.Sums.{member-each}

once-append : {A : Type 0} (xs ys : List A) → Once xs → Once ys → ((a : A) → Memᴰ a xs → Memᴰ a ys → ⊥) → Once (xs ++ ys)
once-append [] ys p q apart = q
once-append (x ∷ xs) ys p q apart = (
  λ m. ⊎_elim p.0 (apart x (Memᴰ.head refl)) (Memᴰ.append_cases xs m),
  once-append xs ys p.1 q (λ a m. apart a (Memᴰ.tail m)),
)

pub once-each : {A : Type 0} (f : ℕ → List A) → ((i : ℕ) → Once (f i)) → ((i j : ℕ) (a : A) → Memᴰ a (f i) → Memᴰ a (f j) → i ≡ j)
    → (n : ℕ) → Once (each n f)
unfolding each
once-each f single own zero = tt
once-each f single own (suc n) =
    once-append (each n f) (f n) (once-each f single own n) (single n)
    (λ a m k. let (i, h, w) = member-each f n m in let l : i < n = h in let e = own i n a w k in omega arith)

pub once-one : {A : Type 0} (x : A) → Once (x ∷ [])
once-one x = (λ m. Memᴰ.not-nil m, tt)

-- ── A block for each member of a list ──

pub member-flat : {A B : Type 0} (f : A → List B) (l : List A) {b : B} → Memᴰ b (flat_map f l) → (x : A) × Memᴰ x l × Memᴰ b (f x)
unfolding flat_map
member-flat f [] m = absurd (Memᴰ.not-nil m)
member-flat f (x ∷ xs) m =
    ⊎_elim (λ k. (x, Memᴰ.head refl, k)) (λ k. let (y, h, w) = member-flat f xs k in (y, Memᴰ.tail h, w)) (Memᴰ.append_cases (f x) m)

pub flat-member : {A B : Type 0} (f : A → List B) (l : List A) (x : A) {b : B} → Memᴰ x l → Memᴰ b (f x) → Memᴰ b (flat_map f l)
unfolding flat_map
flat-member f [] x m k = absurd (Memᴰ.not-nil m)
flat-member f (y ∷ ys) x {b} m k =
    ⊎_elim (λ e. Memᴰ.append_left (flat_map f ys) (subst (λ z. Memᴰ b (f z)) e k)) (λ h. Memᴰ.append_right (f y) (flat-member f ys x h k)) (Memᴰ.cases_cons m)

pub once-flat : {A B : Type 0} (f : A → List B) → ((x : A) → Once (f x)) → ((x y : A) (b : B) → Memᴰ b (f x) → Memᴰ b (f y) → x ≡ y)
    → (l : List A) → Once l → Once (flat_map f l)
unfolding flat_map
once-flat f single own [] o = tt
once-flat f single own (x ∷ xs) o =
    once-append (f x) (flat_map f xs) (single x) (once-flat f single own xs o.1)
    (λ b m k. let (y, h, w) = member-flat f xs k in o.0 (subst (λ z. Memᴰ z xs) (own y x b w m) h))
