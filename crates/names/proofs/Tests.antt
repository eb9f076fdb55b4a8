-- A test is true or false, of two numbers one is less or the other is no greater, and two tests in turn are both or either: each is read off the tests.
use Prim.Native.Nat.{ℕ, ◌≤◌, ◌<◌}
use mathlib.Core.Path.{◌≡◌, refl, sym}
use mathlib.Core.Bool.{Bool, true, false, true≢false, false≢true}
use mathlib.Core.Logic.{◌↔◌, ◌⊎◌, inl, inr}
use lib.Dec.{ltb}
use borrow.Author.Tests.{ltb-true, ltb-false}
use Rattle.names.specs.Pick.{and_then, or_else}

pub true-or-false : (t : Bool) → (t ≡ true) ⊎ (t ≡ false)
true-or-false true = inl refl
true-or-false false = inr refl

pub not-true-false : (t : Bool) → (t ≡ true → ⊥) → t ≡ false
not-true-false true f = absurd (f refl)
not-true-false false f = refl

pub lt-or-le : (a b : ℕ) → (a < b) ⊎ (b ≤ a)
lt-or-le a b = go (true-or-false (ltb a b))
  where
    go : (ltb a b ≡ true) ⊎ (ltb a b ≡ false) → (a < b) ⊎ (b ≤ a)
    go (inl e) = inl (ltb-true a b e)
    go (inr e) = inr (ltb-false a b e)

-- Two tests that are true together are the same test.
pub both_ways : (s t : Bool) → (s ≡ true → t ≡ true) → (t ≡ true → s ≡ true) → s ≡ t
both_ways true t f g = sym (f refl)
both_ways false true f g = g refl
both_ways false false f g = refl

-- Two facts that hold are the same, and so are two that do not.
pub together : {A B : Type 0} → A → B → A ↔ B
together a b = (λ _. b, λ _. a)

pub neither : {A B : Type 0} → (A → ⊥) → (B → ⊥) → A ↔ B
neither f g = (λ a. absurd (f a), λ b. absurd (g b))

-- ── Two tests in turn ──

pub and_both : (t : Bool) (k : Unit {0} → Bool) → and_then t k ≡ true → (t ≡ true) × (k tt ≡ true)
unfolding and_then
and_both true k e = (refl, e)
and_both false k e = absurd (false≢true e)

pub and-make : (t : Bool) (k : Unit {0} → Bool) → t ≡ true → k tt ≡ true → and_then t k ≡ true
unfolding and_then
and-make true k e f = f
and-make false k e f = e

pub or-either : (t : Bool) (k : Unit {0} → Bool) → or_else t k ≡ true → (t ≡ true) ⊎ (k tt ≡ true)
unfolding or_else
or-either true k e = inl refl
or-either false k e = inr e

pub or_left : (t : Bool) (k : Unit {0} → Bool) → t ≡ true → or_else t k ≡ true
unfolding or_else
or_left true k e = refl
or_left false k e = absurd (false≢true e)

pub or_right : (t : Bool) (k : Unit {0} → Bool) → k tt ≡ true → or_else t k ≡ true
unfolding or_else
or_right true k e = refl
or_right false k e = e

-- The second of two tests is made only where the first is passed.
pub and-on : (t : Bool) (k : Unit {0} → Bool) → t ≡ true → and_then t k ≡ k tt
unfolding and_then
and-on true k e = refl
and-on false k e = absurd (false≢true e)

pub and-off : (t : Bool) (k : Unit {0} → Bool) → t ≡ false → and_then t k ≡ false
unfolding and_then
and-off true k e = absurd (true≢false e)
and-off false k e = refl
