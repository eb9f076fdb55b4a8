-- A piece that lies on a sheet with a number for each of its cells is asked for its colour.
use mathlib.Core.Path.{sym, ◌∙◌}
use native.Mathlib.Omega.{arith}
use Rattle.pieces.proofs.PiecesOnSheets.{lies-told}
use Rattle.pieces.proofs.on_sheet.covers_on.Goals as goal

pub times-requires : goal.times-requires
times-requires c =
    let (room, inside) = lies-told _ _ (sym c.lies_on.ensures ∙ c.if-not-lies_on.false) in
    record { first_few = omega (arith, room.rows_few); second_few = omega (arith, room.cols_few) }

pub invariant_of-covers : goal.invariant_of-covers
invariant_of-covers c =
    let (room, inside) = lies-told _ _ (sym c.lies_on.ensures ∙ c.if-not-lies_on.false) in
    record { celled = record { sizes = room; cells = omega (arith, c.if-times-colours.true, c.times.ensures.0) } }

pub covers-requires : goal.covers-requires
covers-requires c = (lies-told _ _ (sym c.lies_on.ensures ∙ c.if-not-lies_on.false)).1
