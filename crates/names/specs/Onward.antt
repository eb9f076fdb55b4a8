-- Reading goes left to right and stops at the first fault: what stands after something is read only where that is accepted. In each of
-- these `refuse` takes the fault, and what was read goes on to what follows it.
use Rattle.std.specs.Prelude.{ℕ, List, length, ltb, eqb}
use Rattle.names.specs.Pick.{pick, fault}
use Rattle.names.specs.Fault.{Fault}
use Rattle.names.specs.Read.{Read}
use Rattle.names.specs.Read.{Value, Refused}

-- after a number: `go` takes it and the place after it
abbrev pub onward {ℓ} : {A : Type ℓ} → (Fault → A) → Read → (ℕ → ℕ → A) → A
onward refuse (Value v next) go = go v next
onward refuse (Refused f) go = refuse f

-- after what carries its fault with it, where the number 0 is none
abbrev pub faultless {ℓ} : {A : Type ℓ} → (Fault → A) → Fault → A → A
faultless refuse f go = pick (eqb f.number 0) go (refuse f)

-- the input ends at a place: 8 at the first byte that follows
abbrev pub ending {ℓ} : {A : Type ℓ} → (Fault → A) → List ℕ → ℕ → A → A
ending refuse s at whole = pick (ltb at (length s)) (refuse (fault 8 at)) whole
