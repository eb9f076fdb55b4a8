-- The bit is read where the slice has room for the table.
use mathlib.Core.Path.{sym, ◌∙◌}
use Rattle.pieces.proofs.LookedThrough.{fits-room, whole_in, whole_out}
use Rattle.pieces.proofs.asking.whole_sheet.Goals as goal

pub invariant_of-table : goal.invariant_of-table
invariant_of-table c =
    let (sizes, entries) = fits-room _ _ _ (sym c.fits_table.ensures ∙ c.if-fits_table.true) in
    record { tabled = record { sizes = sizes; entries = entries } }

pub returns-then-fits_table : goal.returns-then-fits_table
returns-then-fits_table c = c.reply.ensures ∙ sym (whole_in _ _ _ _ (sym c.fits_table.ensures ∙ c.if-fits_table.true))

pub returns-else-fits_table : goal.returns-else-fits_table
returns-else-fits_table c = sym (whole_out _ _ _ _ (sym c.fits_table.ensures ∙ c.if-fits_table.false))
