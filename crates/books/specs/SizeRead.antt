-- What reading the size of a sheet gives.
use Rattle.std.specs.Prelude.{ℕ}
use Rattle.names.specs.Fault.{Fault}
use Rattle.books.specs.declared.size.Size.{Size}

-- rows and columns with the place after them, or the fault
pub data SizeRead : Type 0 where
  By : Size → ℕ → SizeRead
  Refused : Fault → SizeRead
