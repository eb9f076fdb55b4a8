-- What splitting a book keeps of it.
use Rattle.std.specs.Prelude.{ℕ, Result, Ok, Err}
use Rattle.names.specs.Pick.{fault}
use Rattle.names.specs.Fault.{Fault, told_fault}
use Rattle.names.specs.declared.colours.Colours.{Colours}
use Rattle.names.specs.declared.fault.Fault.{Fault as CodeFault}
use Rattle.books.specs.Book.{no_family}
use Rattle.pieces.specs.Masks.{no_joins}
use Rattle.pieces.specs.declared.asking.Split.{Split as CodeSplit}
use Rattle.pieces.specs.declared.masks.Joins.{Joins}

-- a refused book has no colours, the start 0 and no joins
pub record Split : Type 0 where
  pub fault : Fault
  pub colours : Colours
  pub start : ℕ
  pub joins : Joins

-- what the code gives, as the definitions tell it
abbrev pub told_split : Result CodeSplit CodeFault → Split
told_split (Ok s) = record { fault = fault 0 0; colours = s.colours; start = s.start; joins = s.joins }
told_split (Err f) = record { fault = told_fault f; colours = no_family.colours; start = no_family.start; joins = no_joins }
