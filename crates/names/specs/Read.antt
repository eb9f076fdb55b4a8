-- What reading a number gives.
use Rattle.std.specs.Prelude.{ℕ}
use Rattle.names.specs.Fault.{Fault}

-- a number and the place after it, or the fault
pub data Read : Type 0 where
  Value : ℕ → ℕ → Read
  Refused : Fault → Read
