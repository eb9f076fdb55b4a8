-- The test asks for all that the loop needs.
use mathlib.Core.Path.{sym, ◌∙◌}
use Rattle.pieces.proofs.RefilledBy.{refills-exactly, all_made, none_made}
use Rattle.pieces.proofs.ServingMasks.{fitting-fit}
use Rattle.pieces.proofs.refill.refill.Goals as goal

pub refill_cells-requires : goal.refill_cells-requires
refill_cells-requires c =
    let h = (refills-exactly _ _ _ _ _ _).0 (sym c.refills.ensures ∙ c.if-refills.true) in
    record {
      tabled = record { sizes = h.sizes; entries = h.room };
      row_on = h.row_on;
      column_on = h.column_on;
    }

pub invariant_of-refill_cells : goal.invariant_of-refill_cells
invariant_of-refill_cells c =
    let h = (refills-exactly _ _ _ _ _ _).0 (sym c.refills.ensures ∙ c.if-refills.true) in
    record { fit = fitting-fit _ _ h.fits }

pub returns-then-refills : goal.returns-then-refills
returns-then-refills c =
    c.refill_cells.ensures ∙ sym (all_made _ _ _ _ _ _ _ (sym c.refills.ensures ∙ c.if-refills.true))

pub returns-else-refills : goal.returns-else-refills
returns-else-refills c = sym (none_made _ _ _ _ _ _ _ (sym c.refills.ensures ∙ c.if-refills.false))
