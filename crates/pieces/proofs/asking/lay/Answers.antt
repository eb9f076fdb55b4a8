-- The test is that of the definition, and the rules are split where it does not end it.
use lib.ListN.{length}
use borrow.Author.Tests.{eq-eqb, ne_eqb}
use Rattle.pieces.specs.Masks.{all_masks, laid}
use Rattle.pieces.proofs.asking.lay.Goals as goal

pub returns-then-masks-ne-ALL_MASKS : goal.returns-then-masks-ne-ALL_MASKS
unfolding laid
returns-then-masks-ne-ALL_MASKS c = rw (ne_eqb (length c.args.masks.now) all_masks c.if-masks-ne-ALL_MASKS.true)

pub returns : goal.returns
unfolding laid
returns c = rw (eq-eqb (length c.args.masks.now) all_masks c.if-masks-ne-ALL_MASKS.false) c.split.ensures
