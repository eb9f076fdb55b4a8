-- One motif more is marked, and every other stays as it was: the bits of | and of powers of two.
use mathlib.Core.Path.{◌≡◌}
use mathlib.Core.Bool.{true, false}
use mathlib.Core.Logic.{◌⊎◌, inl, inr, ⊎_elim}
use Prim.Native.Nat.{ℕ, ◌^◌}
use borrow.Author.Tests.{eqb-true, eqb-false, eq-eqb}
use Rattle.names.specs.Bits.{bit, is_set}
use Rattle.names.proofs.Bits.{bit-cases, none-set, all-bits, same_bit, or_split, or_left, or_right, bit-pow, pow-has}
use Rattle.tidy.specs.Marks.{adding}

pub set-bit : (m a : ℕ) → is_set m a ≡ true → bit m a ≡ 1
unfolding is_set
set-bit m a e = eqb-true _ _ e

pub unset-bit : (m a : ℕ) → is_set m a ≡ false → bit m a ≡ 0
unfolding is_set
unset-bit m a e = ⊎_elim (λ z. z) (λ o. absurd (eqb-false (bit m a) 1 e o)) (bit-cases m a)

bit-set : (m a : ℕ) → bit m a ≡ 1 → is_set m a ≡ true
unfolding is_set
bit-set m a e = eq-eqb _ _ e

pub set-none : (a : ℕ) → is_set 0 a ≡ true → ⊥
set-none a e = none-set a (set-bit 0 a e)

pub set-added : (m a : ℕ) → is_set (adding m a) a ≡ true
unfolding adding
set-added m a = bit-set _ a (or_right m (2 ^ a) a (bit-pow a))

pub set-still : (m a x : ℕ) → is_set m x ≡ true → is_set (adding m a) x ≡ true
unfolding adding
set-still m a x e = bit-set _ x (or_left m (2 ^ a) x (set-bit m x e))

pub set_split : (m a x : ℕ) → is_set (adding m a) x ≡ true → (x ≡ a) ⊎ (is_set m x ≡ true)
unfolding adding
set_split m a x e = ⊎_elim (λ o. inr (bit-set m x o)) (λ o. inl (pow-has a x o)) (or_split m (2 ^ a) x (set-bit _ x e))

-- a motif that is marked already changes nothing
pub added-already : (m a : ℕ) → is_set m a ≡ true → adding m a ≡ m
added-already m a e =
    all-bits (adding m a) m (λ x. same_bit (adding m a) m x
    (λ h. ⊎_elim (λ (q : x ≡ a). rw q (set-bit m a e)) (set-bit m x) (set_split m a x (bit-set _ x h)))
    (λ h. set-bit _ x (set-still m a x (bit-set m x h))))
