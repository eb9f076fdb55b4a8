-- The set bits of a card are as many as the sizes that the family has: a row's number has a bit for each of them.
use Prim.Native.Nat.{ℕ, zero, suc, ◌+◌, ◌*◌, ◌^◌, ◌<◌}
use mathlib.Core.Path.{◌≡◌, refl, sym, ap, ap₂, ◌∙◌}
use mathlib.Core.Bool.{Bool, true, false}
use mathlib.Core.List.{List, [], ◌∷◌, ◌++◌}
use native.Mathlib.Nat.{one-mul}
use native.Mathlib.Omega.{arith}
use lib.Count.{ones, ones_cat, ones-ones}
use lib.ListN.{length, length-append}
use Rattle.names.specs.Pick.{pick}
use Rattle.books.specs.Contents.{Contents}
use Rattle.names.specs.Counted.{each}
use Rattle.names.specs.Bits.{bits}
use Rattle.pieces.proofs.Entries.{bits-lt}
use Rattle.books.specs.Size.{size_by as by}
use Rattle.sizes.specs.Card.{sized?, card_row, card, sizes_of, set_bits}

-- ── One row ──

one_more : (k x : ℕ) (t : Bool) → x < 2 ^ k → ones (x + pick t (2 ^ k) 0) ≡ ones x + pick t 1 0
one_more k x true h =
    let e : x + 2 ^ k ≡ 1 * 2 ^ k + x = omega (arith, one-mul (2 ^ k)) in
    ap ones e ∙ ones_cat k 1 x h ∙ omega (arith, ones-ones 1)
one_more k x false h = let e : x + 0 ≡ x = omega arith in ap ones e ∙ omega arith

one-listed : {A : Type 0} (t : Bool) (x : A) → length (pick t (x ∷ []) []) ≡ pick t 1 0
one-listed true x = refl
one-listed false x = refl

row-counted : {A : Type 0} (n : ℕ) (test : ℕ → Bool) (f : ℕ → A) → ones (bits n test) ≡ length (each n (λ j. pick (test j) (f j ∷ []) []))
unfolding bits each ones
row-counted zero test f = refl
row-counted (suc n) test f =
    one_more n (bits n test) (test n) (bits-lt n test)
    ∙ ap₂ ◌+◌ (row-counted n test f) (sym (one-listed (test n) (f n)))
    ∙ sym (length-append (each n (λ j. pick (test j) (f j ∷ []) [])) (pick (test n) (f n ∷ []) []))

-- ── All rows ──

pub set_bits-append : (xs ys : List ℕ) → set_bits (xs ++ ys) ≡ set_bits xs + set_bits ys
unfolding set_bits
set_bits-append [] ys = omega arith
set_bits-append (x ∷ xs) ys = omega (arith, set_bits-append xs ys)

rows-counted : {A : Type 0} (n : ℕ) (f : ℕ → ℕ) (g : ℕ → List A) → ((i : ℕ) → ones (f i) ≡ length (g i))
    → set_bits (each n (λ i. f i ∷ [])) ≡ length (each n g)
unfolding each set_bits
rows-counted zero f g same = refl
rows-counted (suc n) f g same =
    set_bits-append (each n (λ i. f i ∷ [])) (f n ∷ [])
    ∙ omega (arith, rows-counted n f g same, same n, length-append (each n g) (g n))

pub sizes-counted : (b : Contents) (most : ℕ) → set_bits (card b most) ≡ length (sizes_of b most)
unfolding card card_row sizes_of
sizes-counted b most = rows-counted most _ _ (λ i. row-counted most (sized? b i) (λ j. by (suc i) (suc j)))
