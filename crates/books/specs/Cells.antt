-- What reading the cells of a sheet finds: one colour number each, row by row.
use Rattle.std.specs.Prelude.{ℕ, zero, suc, ◌+◌, List, set, replicate}
use Rattle.names.specs.Pick.{fault}
use Rattle.names.specs.Onward.{onward, faultless}
use Rattle.names.specs.Number.{number_below}
use Rattle.names.specs.Fault.{Fault}
use Rattle.books.specs.Size.{room}

-- the fault, the cells with 0 past the last, and the place after them
pub record CellsRead : Type 0 where
  pub fault : Fault
  pub cells : List ℕ
  pub next : ℕ

-- no cells, and refused ones
unfoldable pub no_cells : List ℕ
no_cells = replicate room 0

abbrev pub refused_cells : Fault → CellsRead
refused_cells f = record { fault = f; cells = no_cells; next = 0 }

-- so many cells more from a place on, the next of them the i-th; a number that is not below that of the colours is refused with 6
abbrev pub cells_onward : List ℕ → ℕ → List ℕ → ℕ → ℕ → ℕ → CellsRead
cells_onward s colours cells i at zero = record { fault = fault 0 0; cells = cells; next = at }
cells_onward s colours cells i at (suc k) =
    onward refused_cells (number_below s at colours 6) (λ v next. cells_onward s colours (set cells i v) (i + 1) next k)

unfoldable pub cells_at : List ℕ → ℕ → ℕ → ℕ → CellsRead
cells_at s colours at count = cells_onward s colours no_cells 0 at count

abbrev pub after_cells {ℓ} : {A : Type ℓ} → (Fault → A) → CellsRead → (List ℕ → ℕ → A) → A
after_cells refuse r go = faultless refuse r.fault (go r.cells r.next)
