-- A bit of a gathering is a bit of one of its parts; a join fires exactly where both motifs are set, and then sets its head's bit alone.
use mathlib.Core.Path.{◌≡◌, refl, sym, ap, ap₂, ◌∙◌, subst}
use mathlib.Core.Logic.{⊎_elim}
use Prim.Native.Nat.{ℕ, zero, suc, ◌+◌, ◌-◌, ◌^◌, ◌<◌}
use native.Mathlib.Omega.{arith}
use native.Mathlib.Decide.{ℕ_discrete}
use native.Mathlib.Numerals.{add-one}
use lib.Bits.{bit_and, bit_or}
use borrow.Author.Tests.{eq-eqb, ne_eqb}
use Rattle.names.specs.Bits.{bit}
use Rattle.pieces.specs.Firing.{firing, gathered}
use Rattle.names.proofs.Bits.{none-set, same_bit, or_split, or_left, or_right, bit-pow, pow-has, and-pow-zero, and-pow-some, all-bits}

pub gathered_next : (n : ℕ) (f : ℕ → ℕ) → gathered (n + 1) f ≡ bit_or (gathered n f) (f n)
unfolding gathered
gathered_next n f = rw add-one

pub gathered-has : (n : ℕ) (f : ℕ → ℕ) (a : ℕ) → bit (gathered n f) a ≡ 1 → (i : ℕ) × (i < n) × (bit (f i) a ≡ 1)
unfolding gathered
gathered-has zero f a h = absurd (none-set a h)
gathered-has (suc n) f a h = ⊎_elim (λ o. more (gathered-has n f a o)) (λ o. (n, omega arith, o)) (or_split (gathered n f) (f n) a h)
  where
    more : (i : ℕ) × (i < n) × (bit (f i) a ≡ 1) → (i : ℕ) × (i < suc n) × (bit (f i) a ≡ 1)
    more w = let l : w.0 < n = w.1 in (w.0, omega arith, w.2)

pub has-gathered : (n : ℕ) (f : ℕ → ℕ) (a i : ℕ) → i < n → bit (f i) a ≡ 1 → bit (gathered n f) a ≡ 1
unfolding gathered
has-gathered zero f a i l h = absurd (omega arith)
has-gathered (suc n) f a i l h = go (λ k. has-gathered n f a i k h) (ℕ_discrete i n)
  where
    go : (i < n → bit (gathered n f) a ≡ 1) → Dec (i ≡ n) → bit (bit_or (gathered n f) (f n)) a ≡ 1
    go ih (yes e) = or_right (gathered n f) (f n) a (subst (λ (k : ℕ). bit (f k) a ≡ 1) e h)
    go ih (no ne) = or_left (gathered n f) (f n) a (ih (omega arith))

pub gathered-same : (n : ℕ) (f g : ℕ → ℕ) → ((i : ℕ) → i < n → f i ≡ g i) → gathered n f ≡ gathered n g
unfolding gathered
gathered-same zero f g h = refl
gathered-same (suc n) f g h = ap₂ bit_or (gathered-same n f g (λ i l. h i (omega arith))) (h n (omega arith))

pub or_assoc : (x y z : ℕ) → bit_or (bit_or x y) z ≡ bit_or x (bit_or y z)
or_assoc x y z = all-bits (bit_or (bit_or x y) z) (bit_or x (bit_or y z)) (λ a. same_bit (bit_or (bit_or x y) z) (bit_or x (bit_or y z)) a (there a) (back a))
  where
    there : (a : ℕ) → bit (bit_or (bit_or x y) z) a ≡ 1 → bit (bit_or x (bit_or y z)) a ≡ 1
    there a o =
        ⊎_elim (λ p. ⊎_elim (λ q. or_left x (bit_or y z) a q) (λ q. or_right x (bit_or y z) a (or_left y z a q)) (or_split x y a p))
        (λ p. or_right x (bit_or y z) a (or_right y z a p)) (or_split (bit_or x y) z a o)

    back : (a : ℕ) → bit (bit_or x (bit_or y z)) a ≡ 1 → bit (bit_or (bit_or x y) z) a ≡ 1
    back a o =
        ⊎_elim (λ p. or_left (bit_or x y) z a (or_left x y a p))
        (λ p. ⊎_elim (λ q. or_left (bit_or x y) z a (or_right x y a q)) (λ q. or_right (bit_or x y) z a q) (or_split y z a p)) (or_split x (bit_or y z) a o)

-- from the last to the first it is the same
pub gathered-back : (n : ℕ) (f g : ℕ → ℕ) → ((i : ℕ) → i < n → f i ≡ g (n - 1 - i)) → gathered n f ≡ gathered n g
gathered-back n f g e = all-bits (gathered n f) (gathered n g) (λ a. same_bit (gathered n f) (gathered n g) a (there a) (back a))
  where
    there : (a : ℕ) → bit (gathered n f) a ≡ 1 → bit (gathered n g) a ≡ 1
    there a o = let (i, h, u) = gathered-has n f a o in has-gathered n g a (n - 1 - i) (omega arith) (ap (λ (x : ℕ). bit x a) (sym (e i h)) ∙ u)

    back : (a : ℕ) → bit (gathered n g) a ≡ 1 → bit (gathered n f) a ≡ 1
    back a o =
        let (i, h, u) = gathered-has n g a o in
        let twice : n - 1 - (n - 1 - i) ≡ i = omega arith in
        has-gathered n f a (n - 1 - i) (omega arith) (ap (λ (x : ℕ). bit x a) (e (n - 1 - i) (omega arith) ∙ ap g twice) ∙ u)

-- ── One join ──

pub firing-has : (l r x y h a : ℕ) → bit (firing l r (2 ^ x) (2 ^ y) (2 ^ h)) a ≡ 1 → (a ≡ h) × (bit l x ≡ 1) × (bit r y ≡ 1)
unfolding firing
firing-has l r x y h a o = go (ℕ_discrete (bit_and l (2 ^ x)) 0) (ℕ_discrete (bit_and r (2 ^ y)) 0)
  where
    go : Dec (bit_and l (2 ^ x) ≡ 0) → Dec (bit_and r (2 ^ y) ≡ 0) → (a ≡ h) × (bit l x ≡ 1) × (bit r y ≡ 1)
    go (yes p) q = absurd (none-set a (rw (eq-eqb (bit_and l (2 ^ x)) 0 p) at o))
    go (no p) (yes q) = absurd (none-set a (rw (ne_eqb (bit_and l (2 ^ x)) 0 p, eq-eqb (bit_and r (2 ^ y)) 0 q) at o))
    go (no p) (no q) =
        (pow-has h a (rw (ne_eqb (bit_and l (2 ^ x)) 0 p, ne_eqb (bit_and r (2 ^ y)) 0 q) at o), and-pow-some l x p, and-pow-some r y q)

pub has-firing : (l r x y h : ℕ) → bit l x ≡ 1 → bit r y ≡ 1 → bit (firing l r (2 ^ x) (2 ^ y) (2 ^ h)) h ≡ 1
unfolding firing
has-firing l r x y h p q =
    rw (ne_eqb (bit_and l (2 ^ x)) 0 (λ z. and-pow-zero l x z p), ne_eqb (bit_and r (2 ^ y)) 0 (λ z. and-pow-zero r y z q)) (bit-pow h)
