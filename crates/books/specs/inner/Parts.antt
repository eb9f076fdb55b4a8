-- What private readers leave in lent arrays, and what they ask for.
use Rattle.std.specs.Prelude.{ℕ, List, Result, Ok, Err}
use Rattle.names.specs.Pick.{fault}
use Rattle.names.specs.Fault.{told_fault}
use Rattle.names.specs.declared.fault.Fault.{Fault as CodeFault}
use Rattle.books.specs.Cells.{CellsRead, refused_cells}

-- cells in an array, with the place where the reader stands after them
abbrev pub told_cells : Result (Unit {0}) CodeFault → List ℕ → ℕ → CellsRead
told_cells (Ok _) cells next = record { fault = fault 0 0; cells = cells; next = next }
told_cells (Err f) cells next = refused_cells (told_fault f)
