-- What holds of both answers, each where its test says so, holds of the choice.
use mathlib.Core.Bool.{Bool, true, false}
use mathlib.Core.Path.{◌≡◌, refl}
use Rattle.names.specs.Pick.{pick}

pub pick_ind {ℓ κ} : {A : Type ℓ} (P : A → Type κ) (b : Bool) (x y : A) → (b ≡ true → P x) → (b ≡ false → P y) → P (pick b x y)
pick_ind P true x y f g = f refl
pick_ind P false x y f g = g refl
