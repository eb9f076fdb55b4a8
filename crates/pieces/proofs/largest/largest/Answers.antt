-- The pieces of a sheet that has a table there are searched; where it has none, there is no piece.
use mathlib.Core.Path.{sym, ◌∙◌}
use Rattle.pieces.proofs.LookedThrough.{fits-room, in_table, no_table}
use Rattle.pieces.proofs.largest.largest.Goals as goal

pub invariant_of-largest : goal.invariant_of-largest
invariant_of-largest c =
    let (sizes, entries) = fits-room _ _ _ (sym c.fits_table.ensures ∙ c.if-fits_table.true) in
    record { tabled = record { sizes = sizes; entries = entries } }

pub returns-then-fits_table : goal.returns-then-fits_table
returns-then-fits_table c = c.largest.ensures ∙ sym (in_table _ _ _ _ (sym c.fits_table.ensures ∙ c.if-fits_table.true))

pub returns : goal.returns
returns c = sym (no_table _ _ _ _ (sym c.fits_table.ensures ∙ c.if-fits_table.false))
