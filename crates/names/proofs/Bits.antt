-- The bits of a number: of | and of powers of two, and that numbers below 2 ^ k with the same bits are equal.
use mathlib.Core.Path.{◌≡◌, refl, sym, ap, ◌∙◌, subst}
use mathlib.Core.Logic.{◌⊎◌, inl, inr, ⊎_elim}
use Prim.Native.Nat.{ℕ, zero, suc, ◌+◌, ◌-◌, ◌*◌, ◌/◌, ◌%◌, ◌^◌, ◌≤◌, ◌<◌}
use native.Mathlib.Nat.{mod-lt, one-mul, mul-mod_left, pow-suc, div-eq_of_lt, zero-div, zero-mul, lt_of_lt_of_le}
use native.Mathlib.Decide.{dec_lt, ℕ_discrete}
use native.Mathlib.Omega.{arith}
use lib.Bits.{bit_and, bit_or, or_shr, or_mod, and_high}
use lib.Pow.{pow_pos, pow_mono, pow-lt, pow-add, shl-shr, shr-shr}
use Rattle.names.specs.Bits.{bit}

pub bit-lt : (x a : ℕ) → bit x a < 2
unfolding bit
bit-lt x a = mod-lt (x / 2 ^ a) (omega arith)

pub bit-zero : (a : ℕ) → bit 0 a ≡ 0
unfolding bit
bit-zero a = ap (λ (n : ℕ). n % 2) (zero-div (2 ^ a))

pub none-set : (a : ℕ) → bit 0 a ≡ 1 → ⊥
none-set a h = omega (arith, bit-zero a)

-- a number below 2 ^ a has no bit from a on
pub bit_high : (x a k : ℕ) → x < 2 ^ k → k ≤ a → bit x a ≡ 0
unfolding bit
bit_high x a k h l = ap (λ (n : ℕ). n % 2) (div-eq_of_lt (lt_of_lt_of_le h (pow_mono l)))

pub bit-cases : (x a : ℕ) → (bit x a ≡ 0) ⊎ (bit x a ≡ 1)
bit-cases x a = go (bit x a) refl (bit-lt x a)
  where
    go : (n : ℕ) → bit x a ≡ n → bit x a < 2 → (bit x a ≡ 0) ⊎ (bit x a ≡ 1)
    go zero e h = inl e
    go (suc zero) e h = inr e
    go (suc (suc n)) e h = absurd (omega arith)

pub same_bit : (x y a : ℕ) → (bit x a ≡ 1 → bit y a ≡ 1) → (bit y a ≡ 1 → bit x a ≡ 1) → bit x a ≡ bit y a
same_bit x y a f g =
    ⊎_elim (λ z. ⊎_elim (λ w. z ∙ sym w) (λ w. g w ∙ sym w) (bit-cases y a)) (λ z. z ∙ sym (f z)) (bit-cases x a)

-- ── Of x | y ──

bit-or : (x y a : ℕ) → bit (bit_or x y) a ≡ bit_or (bit x a) (bit y a)
unfolding bit
bit-or x y a = ap (λ (n : ℕ). n % 2) (or_shr x y a) ∙ or_mod (x / 2 ^ a) (y / 2 ^ a) 1

pub or_split : (x y a : ℕ) → bit (bit_or x y) a ≡ 1 → (bit x a ≡ 1) ⊎ (bit y a ≡ 1)
or_split x y a h =
    ⊎_elim (λ z. inr (sym (bit-or x y a ∙ ap (λ (n : ℕ). bit_or n (bit y a)) z) ∙ h)) (λ o. inl o) (bit-cases x a)

pub or_left : (x y a : ℕ) → bit x a ≡ 1 → bit (bit_or x y) a ≡ 1
or_left x y a h =
    bit-or x y a ∙ ap (λ (n : ℕ). bit_or n (bit y a)) h
    ∙ ⊎_elim (λ z. ap (λ (n : ℕ). bit_or 1 n) z) (λ z. ap (λ (n : ℕ). bit_or 1 n) z) (bit-cases y a)

pub or_right : (x y a : ℕ) → bit y a ≡ 1 → bit (bit_or x y) a ≡ 1
or_right x y a h =
    bit-or x y a ∙ ap (λ (n : ℕ). bit_or (bit x a) n) h
    ∙ ⊎_elim (λ z. ap (λ (n : ℕ). bit_or n 1) z) (λ z. ap (λ (n : ℕ). bit_or n 1) z) (bit-cases x a)

-- ── Of a power of two ──

pub bit-pow : (a : ℕ) → bit (2 ^ a) a ≡ 1
unfolding bit
bit-pow a = ap (λ (n : ℕ). n % 2) (ap (λ (n : ℕ). n / 2 ^ a) (sym (one-mul (2 ^ a))) ∙ shl-shr 1 a)

low_bits : (a j : ℕ) → 2 ^ (suc j + a) / 2 ^ a % 2 ≡ 0
low_bits a j =
    ap (λ (n : ℕ). n / 2 ^ a % 2) (pow-add 2 (suc j) a) ∙ ap (λ (n : ℕ). n % 2) (shl-shr (2 ^ suc j) a)
    ∙ ap (λ (n : ℕ). n % 2) (pow-suc 2 j) ∙ mul-mod_left (2 ^ j) 2

bit-pow-other : (h a : ℕ) → (a ≡ h → ⊥) → bit (2 ^ h) a ≡ 0
unfolding bit
bit-pow-other h a ne = go (dec_lt a h) (dec_lt h a)
  where
    go : Dec (a < h) → Dec (h < a) → 2 ^ h / 2 ^ a % 2 ≡ 0
    go (yes l) g =
        let e : suc (h - a - 1) + a ≡ h = omega arith in
        subst (λ (n : ℕ). 2 ^ n / 2 ^ a % 2 ≡ 0) e (low_bits a (h - a - 1))
    go (no l) (yes g) = ap (λ (n : ℕ). n % 2) (div-eq_of_lt (pow-lt g))
    go (no l) (no g) = absurd (ne (omega arith))

pub pow-has : (h a : ℕ) → bit (2 ^ h) a ≡ 1 → a ≡ h
pow-has h a e = go (ℕ_discrete a h)
  where
    go : Dec (a ≡ h) → a ≡ h
    go (yes p) = p
    go (no n) = let z : bit (2 ^ h) a ≡ 0 = bit-pow-other h a n in absurd (omega arith)

-- a mask of one bit keeps that bit, in its place
and_pow : (x a : ℕ) → bit_and x (2 ^ a) ≡ bit x a * 2 ^ a
unfolding bit
and_pow x a = subst (λ (n : ℕ). bit_and x n ≡ x / 2 ^ a % 2 * 2 ^ a) gap (and_high x 1 a)
  where
    gap : 2 ^ (1 + a) - 2 ^ a ≡ 2 ^ a
    gap = let p : 2 ^ (1 + a) ≡ 2 * 2 ^ a = pow-add 2 1 a in omega arith

pub and-pow-zero : (x a : ℕ) → bit_and x (2 ^ a) ≡ 0 → bit x a ≡ 1 → ⊥
and-pow-zero x a e h =
    let p : 0 < 2 ^ a = pow_pos a in
    let q : bit_and x (2 ^ a) ≡ 1 * 2 ^ a = and_pow x a ∙ ap (λ (n : ℕ). n * 2 ^ a) h in
    omega arith

pub and-pow-some : (x a : ℕ) → (bit_and x (2 ^ a) ≡ 0 → ⊥) → bit x a ≡ 1
and-pow-some x a n =
    ⊎_elim (λ z. absurd (n (and_pow x a ∙ ap (λ (m : ℕ). m * 2 ^ a) z ∙ zero-mul (2 ^ a)))) (λ o. o) (bit-cases x a)

-- ── Numbers by their bits ──

bit-half : (x a : ℕ) → bit (x / 2) a ≡ bit x (suc a)
unfolding bit
bit-half x a = ap (λ (n : ℕ). n % 2) (shr-shr x 1 a ∙ ap (λ (n : ℕ). x / 2 ^ n) (one-add a))
  where
    one-add : (a : ℕ) → 1 + a ≡ suc a
    one-add a = omega arith

bit-first : (x : ℕ) → bit x 0 ≡ x % 2
unfolding bit
bit-first x = omega arith

pub same_bits : (k x y : ℕ) → x < 2 ^ k → y < 2 ^ k → ((a : ℕ) → a < k → bit x a ≡ bit y a) → x ≡ y
same_bits zero x y h l e = omega arith
same_bits (suc k) x y h l e =
    let g = rw (pow-suc 2 k) at h in
    let m = rw (pow-suc 2 k) at l in
    let half : x / 2 ≡ y / 2 =
    same_bits k (x / 2) (y / 2) (omega arith) (omega arith) (λ a i. bit-half x a ∙ e (suc a) (omega arith) ∙ sym (bit-half y a)) in
    omega (arith, sym (bit-first x) ∙ e 0 (omega arith) ∙ bit-first y)

below-pow : (n : ℕ) → n < 2 ^ n
below-pow zero = omega arith
below-pow (suc n) = omega (arith, below-pow n, pow-suc 2 n)

-- All bits say what a number is, whatever bounds it.
pub all-bits : (x y : ℕ) → ((a : ℕ) → bit x a ≡ bit y a) → x ≡ y
all-bits x y e =
    same_bits (x + y) x y (lt_of_lt_of_le (below-pow x) (pow_mono (omega arith))) (lt_of_lt_of_le (below-pow y) (pow_mono (omega arith))) (λ a h. e a)
