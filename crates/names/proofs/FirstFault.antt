-- A type of faults that says what refuses an input: where reading finds no fault or one of them, and each of them is what it finds, it finds each exactly where the
-- type has it, one at most, and none exactly where the type has none.
use Prim.Native.Nat.{◌<◌, ◌≤◌}
use mathlib.Core.Path.{◌≡◌, sym, ◌∙◌, ap, subst}
use mathlib.Core.Logic.{◌↔◌, ◌⊎◌, ⊎_elim}
use native.Mathlib.Omega.{arith}
use Rattle.names.specs.Pick.{fault}
use Rattle.names.specs.Fault.{Fault}
use Rattle.names.proofs.Tests.{lt-or-le}

pub record FirstFault (Faulty : Fault → Type 0) (first : Fault) : Type 0 where
  pub some : (f : Fault) → Faulty f → 1 ≤ f.number
  pub exactly : (f : Fault) → 1 ≤ f.number → (first ≡ f) ↔ Faulty f
  pub one : (f g : Fault) → Faulty f → Faulty g → f ≡ g
  pub none : ((f : Fault) → Faulty f → ⊥) ↔ (first.number ≡ 0)

same_number : {f g : Fault} → f ≡ g → f.number ≡ g.number
same_number e = ap (λ (x : Fault). x.number) e

pub first-fault : (Faulty : Fault → Type 0) (first : Fault) → (first ≡ fault 0 0) ⊎ Faulty first → ((f : Fault) → Faulty f → first ≡ f)
    → (first.number ≡ 0 → (f : Fault) → Faulty f → ⊥) → FirstFault Faulty first
first-fault Faulty first out is never =
    record {
      some = λ f x. ⊎_elim (λ (h : f.number < 1). absurd (never (omega (arith, same_number (is f x))) f x)) (λ h. h) (lt-or-le f.number 1);
      exactly = λ f some. (λ e. ⊎_elim (λ z. absurd (omega (arith, same_number (sym e ∙ z)))) (λ x. subst Faulty e x) out, is f);
      one = λ f g x y. sym (is f x) ∙ is g y;
      none = (λ no. ⊎_elim same_number (λ x. absurd (no first x)) out, never);
    }
