-- What reading a colour list gives.
use Rattle.std.specs.Prelude.{ℕ}
use Rattle.names.specs.Fault.{Fault}
use Rattle.names.specs.declared.colours.Colours.{Colours}

-- a list, with the place after it; a refused one has no colours and the place 0
pub record ColoursRead : Type 0 where
  pub fault : Fault
  pub colours : Colours
  pub next : ℕ

-- what is told of a list whose places went into lent arrays
pub record ListFigures : Type 0 where
  pub fault : Fault
  pub count : ℕ
  pub next : ℕ
