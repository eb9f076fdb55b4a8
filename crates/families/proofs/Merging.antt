-- The merged list has the names of both lists and no others, each once: what is left of the second list is not in the first.
use Prim.Native.Nat.{◌≤◌}
use mathlib.Core.Path.{refl, sym, ◌∙◌}
use mathlib.Core.Bool.{true≢false}
use mathlib.Core.List.{List, [], ◌∷◌, ◌++◌}
use mathlib.Core.List.Memᴰ
use mathlib.Core.List.{Memᴰ}
use mathlib.Core.Logic.{◌⊎◌, inl, inr, ⊎_elim}
use native.Mathlib.Omega.{arith}
use lib.ListN.{length, length-append}
use Rattle.names.specs.Name.{Name}
use Rattle.names.specs.Spelling.{most_colours, Distinct, ColoursOk}
use Rattle.names.proofs.Picking.{pick_ind}
use Rattle.names.proofs.Listing.{listed-test}
use Rattle.families.specs.Merged.{holds, without, merged}

-- A name of the second list is in the first, or is left.
without-mem : (xs ys : List Name) (n : Name) → Memᴰ n ys → Memᴰ n xs ⊎ Memᴰ n (without xs ys)
unfolding without
without-mem xs [] n m = inr m
without-mem xs (y ∷ ys) n m =
    pick_ind (λ (l : List Name). Memᴰ n xs ⊎ Memᴰ n l) (holds xs y) (without xs ys) (y ∷ without xs ys)
    (λ e. ⊎_elim (λ q. inl (Memᴰ.cast q ((listed-test xs y).0 e))) (without-mem xs ys n) (Memᴰ.cases_cons m))
    (λ e. ⊎_elim
    (λ q. inr (Memᴰ.head q))
    (λ u. ⊎_elim inl (λ v. inr (Memᴰ.tail v)) (without-mem xs ys n u))
    (Memᴰ.cases_cons m))

-- What is left is in the second list, and not in the first.
without_back : (xs ys : List Name) (n : Name) → Memᴰ n (without xs ys) → Memᴰ n ys × (Memᴰ n xs → ⊥)
unfolding without
without_back xs [] n = λ m. absurd (Memᴰ.not-nil m)
without_back xs (y ∷ ys) n =
    pick_ind (λ (l : List Name). Memᴰ n l → Memᴰ n (y ∷ ys) × (Memᴰ n xs → ⊥)) (holds xs y) (without xs ys) (y ∷ without xs ys)
    (λ e m. let (a, b) = without_back xs ys n m in (Memᴰ.tail a, b))
    (λ e m. ⊎_elim
    (λ q. (Memᴰ.head q, λ u. true≢false (sym ((listed-test xs y).1 (Memᴰ.cast (sym q) u)) ∙ e)))
    (λ u. let (a, b) = without_back xs ys n u in (Memᴰ.tail a, b))
    (Memᴰ.cases_cons m))

without-distinct : (xs ys : List Name) → Distinct ys → Distinct (without xs ys)
unfolding without
without-distinct xs [] h = tt
without-distinct xs (y ∷ ys) h =
    pick_ind Distinct (holds xs y) (without xs ys) (y ∷ without xs ys)
    (λ e. without-distinct xs ys h.1)
    (λ e. (λ m. h.0 (without_back xs ys y m).0, without-distinct xs ys h.1))

append-distinct : (xs zs : List Name) → Distinct xs → Distinct zs → ((n : Name) → Memᴰ n xs → Memᴰ n zs → ⊥) → Distinct (xs ++ zs)
append-distinct [] zs h k apart = k
append-distinct (x ∷ xs) zs h k apart = (
  λ m. ⊎_elim h.0 (apart x (Memᴰ.head refl)) (Memᴰ.append_cases xs m),
  append-distinct xs zs h.1 k (λ n u v. apart n (Memᴰ.tail u) v),
)

pub merged-mem : (xs ys : List Name) (n : Name) → Memᴰ n ys → Memᴰ n (merged xs ys)
unfolding merged
merged-mem xs ys n m = ⊎_elim (Memᴰ.append_left (without xs ys)) (Memᴰ.append_right xs) (without-mem xs ys n m)

pub merged-back : (xs ys : List Name) (n : Name) → Memᴰ n (merged xs ys) → Memᴰ n xs ⊎ Memᴰ n ys
unfolding merged
merged-back xs ys n m = ⊎_elim inl (λ u. inr (without_back xs ys n u).0) (Memᴰ.append_cases xs m)

pub merged-distinct : (xs ys : List Name) → Distinct xs → Distinct ys → Distinct (merged xs ys)
unfolding merged
merged-distinct xs ys h k = append-distinct xs (without xs ys) h (without-distinct xs ys k) (λ n u v. (without_back xs ys n v).1 u)

pub merged-length : (xs ys : List Name) → length xs ≤ length (merged xs ys)
unfolding merged
merged-length xs ys = simp length-append (omega arith)

-- Merged colours may stand in a book where they are not too many.
pub merged-ok : (xs ys : List Name) → ColoursOk xs → ColoursOk ys → length (merged xs ys) ≤ most_colours → ColoursOk (merged xs ys)
merged-ok xs ys kx ky few =
    record {
      some = omega (arith, kx.some, merged-length xs ys);
      few = few;
      each = λ n m. ⊎_elim (kx.each n) (ky.each n) (merged-back xs ys n m);
      distinct = merged-distinct xs ys kx.distinct ky.distinct;
    }
