-- The size is tested before its pieces are counted.
use mathlib.Core.Path.{sym, ◌∙◌}
use Rattle.books.proofs.SizesWithin.{within-exactly}
use Rattle.pieces.proofs.largest.fits_table.Goals as goal

pub count-requires : goal.count-requires
count-requires c = (within-exactly _ _ _).0 (sym c.within.ensures ∙ c.if-within.true)
