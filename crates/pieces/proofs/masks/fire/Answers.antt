-- Masks that fit have a window for the joins of each direction, and what fires in it is what the joins give.
use mathlib.Core.Path.{sym, ap, ◌∙◌}
use Rattle.books.specs.declared.rule.Dir.TheVariants.{Across as across, Down as down}
use Rattle.pieces.specs.Firing.{fire_of}
use Rattle.pieces.specs.inner.Along.{all_fired}
use Rattle.pieces.specs.declared.masks.Joined.{Joined}
use Rattle.pieces.proofs.AllCuts.{window-fires}
use Rattle.pieces.proofs.ServingMasks.{fitting-fit}
use Rattle.pieces.proofs.masks.fire.Goals as goal

pub invariant_of-masks : goal.invariant_of-masks
invariant_of-masks c = record { fit = fitting-fit _ _ (sym c.fits.ensures ∙ c.if-fits.true) }

pub invariant_of-masks-in-Down : goal.invariant_of-masks-in-Down
invariant_of-masks-in-Down c = record { fit = fitting-fit _ _ (sym c.fits.ensures ∙ c.if-fits.true) }

pub returns-in-Across : goal.returns-in-Across
unfolding fire_of
returns-in-Across c =
    let a = c.args in
    let e = sym c.fits.ensures ∙ c.if-fits.true in
    rw (c.in-Across.is, e)
    (ap (λ (x : Joined). x.heads) c.join.ensures ∙ (λ i. all_fired (c.across.ensures.masks i) (c.across.ensures.count i) a.l a.r)
    ∙ window-fires a.masks.now a.joins across a.l a.r (fitting-fit _ _ e).down_few)

pub returns-in-Down : goal.returns-in-Down
unfolding fire_of
returns-in-Down c =
    let a = c.args in
    let e = sym c.fits.ensures ∙ c.if-fits.true in
    rw (c.in-Down.is, e)
    (ap (λ (x : Joined). x.heads) c.join-in-Down.ensures ∙ (λ i. all_fired (c.down.ensures.masks i) (c.down.ensures.count i) a.l a.r)
    ∙ window-fires a.masks.now a.joins down a.l a.r (fitting-fit _ _ e).down_few)

pub returns : goal.returns
unfolding fire_of
returns c = rw (sym c.fits.ensures ∙ c.if-fits.false)
