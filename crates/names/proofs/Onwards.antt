-- What holds of a fault, and of what follows where there is none, holds of reading onward.
use Prim.Native.Nat.{ℕ}
use mathlib.Core.Path.{◌≡◌, refl}
use Rattle.names.specs.Onward.{onward}
use Rattle.names.specs.Colours.{after_colour}
use Rattle.names.specs.Fault.{Fault}
use Rattle.names.specs.Read.{Read}
use Rattle.names.specs.Read.{Value, Refused}
use Rattle.names.specs.ColourRead.{ColourRead}
use Rattle.names.specs.ColourRead.{At, Refused as RefusedColour}

pub onward-ind {ℓ κ} : {A : Type ℓ} (P : A → Type κ) (refuse : Fault → A) (r : Read) (go : ℕ → ℕ → A)
    → ((f : Fault) → r ≡ Refused f → P (refuse f)) → ((v next : ℕ) → r ≡ Value v next → P (go v next)) → P (onward refuse r go)
onward-ind P refuse (Value v next) go bad good = good v next refl
onward-ind P refuse (Refused f) go bad good = bad f refl

pub after_colour-ind {ℓ κ} : {A : Type ℓ} (P : A → Type κ) (refuse : Fault → A) (r : ColourRead) (go : ℕ → ℕ → A)
    → ((f : Fault) → r ≡ RefusedColour f → P (refuse f)) → ((start len : ℕ) → r ≡ At start len → P (go start len)) → P (after_colour refuse r go)
after_colour-ind P refuse (At start len) go bad good = good start len refl
after_colour-ind P refuse (RefusedColour f) go bad good = bad f refl
