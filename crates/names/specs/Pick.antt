-- A choice by a test, two tests in turn, and a fault with its place.
use Rattle.std.specs.Prelude.{ℕ, ◌≤◌, Bool, true, false}
use Rattle.names.specs.Fault.{Fault}

abbrev pub pick {ℓ} : {A : Type ℓ} → Bool → A → A → A
pick true a b = a
pick false a b = b

-- the second test is made only where the first leaves it open
unfoldable pub and_then : Bool → (Unit {0} → Bool) → Bool
and_then true k = k tt
and_then false k = false

unfoldable pub or_else : Bool → (Unit {0} → Bool) → Bool
or_else true k = true
or_else false k = k tt

abbrev pub fault : ℕ → ℕ → Fault
fault n p = record { number = n; place = p }

-- a number that a reader gives: 0 where there is no fault, 1 to 8 for what refuses an input
abbrev pub ReadersNumber : ℕ → Type 0
ReadersNumber n = n ≤ 8
