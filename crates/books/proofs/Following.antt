-- What the end of an input tells: where no fault is told nothing follows, and a fault is 8 at the first byte that follows.
use Prim.Native.Nat.{ℕ, ◌<◌, ◌≤◌}
use mathlib.Core.Path.{◌≡◌, ap, ◌∙◌}
use mathlib.Core.Bool.{Bool}
use mathlib.Core.List.{List}
use mathlib.Core.Logic.{⊎_elim}
use native.Mathlib.Omega.{arith}
use borrow.Author.Tests.{lt-ltb, le-ltb}
use lib.ListN.{length}
use Rattle.std.proofs.lemmas.Bool.{cases_lt}
use Rattle.names.specs.Pick.{pick, fault}
use Rattle.names.specs.Onward.{ending}
use Rattle.names.specs.Fault.{Fault, told_fault}
use Rattle.names.specs.declared.fault.Fault.{Fault as CodeFault}
use Rattle.names.proofs.Refusing.{number-some}

-- a fault that the code gives is one
pub told-some : (f : CodeFault) → (told_fault f).number ≡ 0 → ⊥
told-some f z = absurd (omega (arith, number-some f.refusal, z))

module _ (s : List ℕ) (at : ℕ) where
  pub nothing-follows : fault 0 0 ≡ ending (λ f. f) s at (fault 0 0) → length s ≤ at
  nothing-follows e =
      ⊎_elim
      (λ (h : at < length s). absurd (omega (arith, ap (λ (f : Fault). f.number) (e ∙ ap (λ (t : Bool). pick t (fault 8 at) (fault 0 0)) (lt-ltb at (length s) h)))))
      (λ (h : length s ≤ at). h)
      (cases_lt at (length s))

  pub something-follows : (f : Fault) → (f.number ≡ 0 → ⊥) → f ≡ ending (λ f. f) s at (fault 0 0) → (at < length s) × (f ≡ fault 8 at)
  something-follows f some e =
      ⊎_elim
      (λ (h : at < length s). (h, e ∙ ap (λ (t : Bool). pick t (fault 8 at) (fault 0 0)) (lt-ltb at (length s) h)))
      (λ (h : length s ≤ at). absurd (some (ap (λ (f : Fault). f.number) (e ∙ ap (λ (t : Bool). pick t (fault 8 at) (fault 0 0)) (le-ltb at (length s) h)))))
      (cases_lt at (length s))
