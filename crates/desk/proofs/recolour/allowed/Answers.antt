-- The tests are those of the definition, one after the other.
use mathlib.Core.Path.{refl, sym, ◌∙◌}
use borrow.Author.Tests.{lt-ltb, le-ltb}
use Rattle.pieces.specs.Pieces.{total}
use Rattle.pieces.proofs.LookedThrough.{fits-room, too_short}
use Rattle.desk.specs.inner.ForCell.{lacking_for}
use Rattle.desk.proofs.recolour.allowed.Goals as goal

pub returns-then-not-is_on-clause-lacks : goal.returns-then-not-is_on-clause-lacks
unfolding lacking_for
returns-then-not-is_on-clause-lacks c = rw (sym c.is_on.ensures ∙ c.if-not-is_on.true) refl

pub returns-then-not-fits_table-clause-lacks : goal.returns-then-not-fits_table-clause-lacks
unfolding lacking_for
returns-then-not-fits_table-clause-lacks c =
    let a = c.args in
    rw (
      sym c.is_on.ensures ∙ c.if-not-is_on.false,
      lt-ltb a.entries (total a.size.rows a.size.cols) (too_short _ _ _ c.requires (sym c.fits_table.ensures ∙ c.if-not-fits_table.true)),
    ) refl

pub returns-clause-lacks : goal.returns-clause-lacks
unfolding lacking_for
returns-clause-lacks c =
    let a = c.args in
    let (_, room) = fits-room a.size.rows a.size.cols a.entries (sym c.fits_table.ensures ∙ c.if-not-fits_table.false) in
    rw (sym c.is_on.ensures ∙ c.if-not-is_on.false, le-ltb a.entries (total a.size.rows a.size.cols) room) refl
