-- What reading a sheet gives.
use Rattle.std.specs.Prelude.{ℕ}
use Rattle.names.specs.Fault.{Fault}
use Rattle.books.specs.declared.sheet.Sheet.{Sheet}
use Rattle.books.specs.declared.size.Size.{Size}

-- a sheet that was read; a refused one has no colours, no rows, no columns, cells 0, and every other number 0
pub record SheetRead : Type 0 where
  pub fault : Fault
  pub sheet : Sheet

-- the same of a sheet whose colours and cells went into lent arrays: how many colours it has, and what is told besides
pub record SheetFigures : Type 0 where
  pub fault : Fault
  pub colours : ℕ
  pub ticket : ℕ
  pub most : ℕ
  pub size : Size
