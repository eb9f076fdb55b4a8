-- What reading the body of a rule gives.
use Rattle.std.specs.Prelude.{ℕ}
use Rattle.names.specs.Fault.{Fault}
use Rattle.books.specs.declared.rule.Body.{Body}

-- a body and the place after it, or the fault
pub data BodyRead : Type 0 where
  Whole : Body → ℕ → BodyRead
  Refused : Fault → BodyRead
