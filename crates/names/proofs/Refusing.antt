-- What callers use of a refusal that the code gives: it has a number, and where nothing may follow the definitions go on or refuse as it says.
use Prim.Native.Nat.{ℕ, ◌≤◌}
use mathlib.Core.Path.{◌≡◌, refl, sym, ap, ap₂, ◌∙◌}
use mathlib.Core.Bool.{Bool, true, false}
use mathlib.Core.List.{List}
use native.Mathlib.Omega.{arith}
use lib.Dec.{ltb}
use lib.ListN.{length}
use Rattle.std.specs.Prelude.{Ok, Err}
use Rattle.names.specs.Pick.{pick, fault}
use Rattle.names.specs.Onward.{ending}
use Rattle.names.specs.Fault.{Fault, number_of, told_fault}
use Rattle.names.specs.ColoursRead.{ColoursRead}
use Rattle.names.specs.Colours.{refused_colours, colours_of}
use Rattle.names.specs.Told.{told_end}
use Rattle.names.specs.declared.colours.Colours.{Colours}
use Rattle.names.specs.declared.fault.Refusal.{Refusal}
use Rattle.names.specs.declared.fault.Refusal.TheVariants.{EndsEarly, Misspelt, OutOfRange, BadByte, TwiceInList, Unlisted, UnknownKind, MoreFollows, RuleAgain}
use Rattle.names.specs.declared.fault.Fault.{Fault as CodeFault}
use Rattle.names.proofs.ReadingColours.{colours-refused}

-- the number of a refusal is never that of an input without one, and fits a byte
pub number-some : (r : Refusal) → 1 ≤ number_of r
number-some EndsEarly = omega arith
number-some Misspelt = omega arith
number-some OutOfRange = omega arith
number-some BadByte = omega arith
number-some TwiceInList = omega arith
number-some Unlisted = omega arith
number-some UnknownKind = omega arith
number-some MoreFollows = omega arith
number-some RuleAgain = omega arith

pub number-few : (r : Refusal) → number_of r ≤ 18
number-few EndsEarly = omega arith
number-few Misspelt = omega arith
number-few OutOfRange = omega arith
number-few BadByte = omega arith
number-few TwiceInList = omega arith
number-few Unlisted = omega arith
number-few UnknownKind = omega arith
number-few MoreFollows = omega arith
number-few RuleAgain = omega arith

abbrev told_as : Fault → Colours → ℕ → ColoursRead
told_as f c n = record { fault = f; colours = c; next = n }

-- a list with the fault of a refusal is a refused list
pub refused_list : (s : List ℕ) (f : CodeFault) → told_fault f ≡ (colours_of s).fault → refused_colours (told_fault f) ≡ colours_of s
refused_list s f e =
    let refused = colours-refused s (λ z. omega (arith, number-some f.refusal, ap (λ (x : Fault). x.number) e)) in
    ap refused_colours e ∙ sym (ap₂ (λ (c : Colours) (n : ℕ). told_as (colours_of s).fault c n) refused.empty refused.nowhere)

-- Nothing may follow: the definitions go on where the code finds nothing, and refuse what it refuses.
module _ {ℓ} {A : Type ℓ} (refuse : Fault → A) (whole : A) (s : List ℕ) (at : ℕ) where
  fine : (more : Bool) → fault 0 0 ≡ pick more (fault 8 at) (fault 0 0) → pick more (refuse (fault 8 at)) whole ≡ whole
  fine true e = absurd (omega (arith, ap (λ (x : Fault). x.number) e))
  fine false e = refl

  bad : (more : Bool) (f : CodeFault) → told_fault f ≡ pick more (fault 8 at) (fault 0 0) → pick more (refuse (fault 8 at)) whole ≡ refuse (told_fault f)
  bad true f e = ap refuse (sym e)
  bad false f e = absurd (omega (arith, number-some f.refusal, ap (λ (x : Fault). x.number) e))

  pub ends-there : told_end (Ok tt) ≡ ending (λ f. f) s at (fault 0 0) → ending refuse s at whole ≡ whole
  ends-there e = fine (ltb at (length s)) e

  pub more-follows : (f : CodeFault) → told_end (Err f) ≡ ending (λ g. g) s at (fault 0 0) → ending refuse s at whole ≡ refuse (told_fault f)
  more-follows f e = bad (ltb at (length s)) f e
