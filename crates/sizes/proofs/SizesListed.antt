-- The sizes that are listed are those within the press that the family has, and none stands twice: each place of the press puts its own size there, or nothing.
use Prim.Native.Nat.{ℕ, suc, ◌-◌, ◌≤◌, ◌<◌}
use mathlib.Core.Path.{◌≡◌, refl, sym, ap, subst}
use mathlib.Core.Bool.{Bool, true, false}
use mathlib.Core.List.Memᴰ
use mathlib.Core.List.{List, [], ◌∷◌, Memᴰ}
use mathlib.Core.Logic.{◌↔◌}
use native.Mathlib.Omega.{arith}
use lib.ListN.{length, get_or}
use Rattle.names.specs.Pick.{pick}
use Rattle.names.specs.Counted.{each}
use Rattle.books.specs.Contents.{Contents}
use Rattle.books.specs.declared.size.Size.{Size}
use Rattle.books.specs.Size.{size_by as by}
use Rattle.sizes.specs.Promise.{Sized}
use Rattle.sizes.specs.Card.{sized?, sizes_of}
use Rattle.sizes.proofs.CardRight.{sized-decided}
use Rattle.names.specs.Spelling.{Distinct}
use Rattle.sizes.proofs.Listing.{each-has, has-each, apart-each, apart-places}

listed : {A : Type 0} (t : Bool) (x y : A) → Memᴰ x (pick t (y ∷ []) []) → (t ≡ true) × (x ≡ y)
listed true x y m = (refl, Memᴰ.eq_of_singleton m)
listed false x y m = absurd (Memᴰ.not-nil m)

one_apart : {A : Type 0} (t : Bool) (x : A) → Distinct (pick t (x ∷ []) [])
one_apart true x = (Memᴰ.not-nil, tt)
one_apart false x = tt

module _ (b : Contents) (most : ℕ) where
  -- what a place of the press puts into the list, and what a row of places does
  abbrev at : ℕ → ℕ → List Size
  at i j = pick (sized? b i j) (by (suc i) (suc j) ∷ []) []

  abbrev row : ℕ → List Size
  row i = each most (at i)

  -- ── Exactly those that the family has ──

  pub size-listed : (r c : ℕ) → Memᴰ (by r c) (sizes_of b most) ↔ ((1 ≤ r) × (r ≤ most) × (1 ≤ c) × (c ≤ most) × Sized b r c)
  unfolding sizes_of
  size-listed r c = (forth, back)
    where
      forth : Memᴰ (by r c) (each most row) → (1 ≤ r) × (r ≤ most) × (1 ≤ c) × (c ≤ most) × Sized b r c
      forth m =
          let (i, hi, u) = each-has row (by r c) most m in
          let (j, hj, v) = each-has (at i) (by r c) most u in
          let (t, e) = listed (sized? b i j) (by r c) (by (suc i) (suc j)) v in
          let er : r ≡ suc i = ap (λ (s : Size). s.rows) e in
          let ec : c ≡ suc j = ap (λ (s : Size). s.cols) e in
          let x : Sized b (suc i) (suc j) = (sized-decided b i j).0 t in
          (omega arith, omega arith, omega arith, omega arith, subst (λ (n : ℕ). Sized b n c) (sym er) (subst (Sized b (suc i)) (sym ec) x))

      back : (1 ≤ r) × (r ≤ most) × (1 ≤ c) × (c ≤ most) × Sized b r c → Memᴰ (by r c) (each most row)
      back (hr, kr, hc, kc, x) =
          let er : r ≡ suc (r - 1) = omega arith in
          let ec : c ≡ suc (c - 1) = omega arith in
          let t : sized? b (r - 1) (c - 1) ≡ true = (sized-decided b (r - 1) (c - 1)).1 (rw (er, ec) at x) in
          has-each row (by r c) most (r - 1) (omega arith) (has-each (at (r - 1)) (by r c) most (c - 1) (omega arith)
          (rw t (Memᴰ.head (λ i. by (er i) (ec i)))))

  -- ── None twice ──

  is_at : (i j : ℕ) (s : Size) → Memᴰ s (at i j) → s ≡ by (suc i) (suc j)
  is_at i j s m = (listed (sized? b i j) s (by (suc i) (suc j)) m).1

  row_apart : (i : ℕ) → Distinct (row i)
  row_apart i =
      apart-each (at i) (λ j. one_apart (sized? b i j) (by (suc i) (suc j)))
      (λ j k s m u. omega (arith, ap (λ (x : Size). x.cols) (is_at i j s m), ap (λ (x : Size). x.cols) (is_at i k s u)))
      most

  row_of : (i : ℕ) (s : Size) → Memᴰ s (row i) → s.rows ≡ suc i
  row_of i s m = let (j, h, u) = each-has (at i) s most m in ap (λ (x : Size). x.rows) (is_at i j s u)

  -- two places of the list that have the same size are one place; s is what stands past the list
  pub sizes-apart : (s : Size) (i j : ℕ) → i < length (sizes_of b most) → j < length (sizes_of b most)
      → get_or (sizes_of b most) i s ≡ get_or (sizes_of b most) j s → i ≡ j
  unfolding sizes_of
  sizes-apart = apart-places (each most row) (apart-each row row_apart (λ i k s m u. omega (arith, row_of i s m, row_of k s u)) most)
