-- The parts in which a list is told are together the list again: nothing of it is left out.
use Prim.Native.Nat.{ℕ}
use mathlib.Core.Path.{◌≡◌}
use mathlib.Core.List.{List}
use Rattle.names.specs.Colours.{list_of, ListInto}
use Rattle.names.specs.Fault.{Fault}
use Rattle.names.specs.ColoursRead.{ColoursRead}
use Rattle.names.specs.ColoursRead.{ListFigures}

abbrev pub together : ListFigures → List ℕ → List ℕ → ColoursRead
together r starts lens = record { fault = r.fault; colours = list_of r.count starts lens; next = r.next }

pub told-whole : {c : ColoursRead} {r : ListFigures} {starts lens : List ℕ} → ListInto c r starts lens → together r starts lens ≡ c
told-whole t = simp (t.fault, t.count, t.next, t.starts, t.lens)

-- what is told besides the arrays
abbrev pub rest : Fault → ℕ → ℕ → ListFigures
rest f count next = record { fault = f; count = count; next = next }

pub told-rest : {c : ColoursRead} {r : ListFigures} {starts lens : List ℕ} → ListInto c r starts lens
    → rest r.fault r.count r.next ≡ rest c.fault c.colours.count c.next
told-rest t = simp (t.fault, t.count, t.next)
