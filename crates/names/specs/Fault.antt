-- Why an input is refused, and where.
use Rattle.std.specs.Prelude.{ℕ}
use Rattle.names.specs.declared.fault.Refusal.{Refusal}
use Rattle.names.specs.declared.fault.Refusal.TheVariants.{EndsEarly, Misspelt, OutOfRange, BadByte, TwiceInList, Unlisted, UnknownKind, MoreFollows, RuleAgain}
use Rattle.names.specs.declared.fault.Fault.{Fault as CodeFault}
use Rattle.names.specs.declared.numbered.Numbered.{Numbered}

-- an answer number with its place; 0 at 0 is no fault
pub record Fault : Type 0 where
  pub number : ℕ
  pub place : ℕ

-- the number that an answer has for a refusal
abbrev pub number_of : Refusal → ℕ
number_of EndsEarly = 1
number_of Misspelt = 2
number_of OutOfRange = 3
number_of BadByte = 4
number_of TwiceInList = 5
number_of Unlisted = 6
number_of UnknownKind = 7
number_of MoreFollows = 8
number_of RuleAgain = 18

-- a fault that the code gives
abbrev pub told_fault : CodeFault → Fault
told_fault f = record { number = number_of f.refusal; place = f.place }

-- a fault that the code gives by a number of the caller's
abbrev pub told_numbered : Numbered → Fault
told_numbered f = record { number = f.number; place = f.place }
