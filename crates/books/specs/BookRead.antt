-- What reading a book gives.
use Rattle.std.specs.Prelude.{ℕ}
use Rattle.names.specs.Fault.{Fault}
use Rattle.names.specs.declared.colours.Colours.{Colours}
use Rattle.books.specs.declared.family.Family.{Family}

-- the numbers between the colours and the rules
pub record Figures : Type 0 where
  pub motifs : ℕ
  pub start : ℕ
  pub count : ℕ

-- the figures and the place after them, or the fault
pub data FiguresRead : Type 0 where
  Whole : Figures → ℕ → FiguresRead
  Refused : Fault → FiguresRead

-- a family that was read; a refused book has the fixed one
pub record BookRead : Type 0 where
  pub fault : Fault
  pub family : Family

-- what is told of a book whose rules went into lent rows: a refused one has no colours, the start 0 and no rules
pub record BookFigures : Type 0 where
  pub fault : Fault
  pub colours : Colours
  pub start : ℕ
  pub rules : ℕ
