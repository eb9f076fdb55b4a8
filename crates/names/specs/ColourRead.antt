-- What reading one colour of a list gives.
use Rattle.std.specs.Prelude.{ℕ}
use Rattle.names.specs.Fault.{Fault}

-- where its name starts and how long it is, or the fault
pub data ColourRead : Type 0 where
  At : ℕ → ℕ → ColourRead
  Refused : Fault → ColourRead
