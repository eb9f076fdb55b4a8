-- After so many turns the painters of as many colours are gathered.
use mathlib.Core.Path.{◌≡◌, refl, sym, ap₂, ◌∙◌}
use native.Mathlib.Omega.{arith}
use borrow.Author.Tests.{eq-eqb, ne_eqb}
use lib.Bits.{bit_or}
use lib.ListN.{length, length-drop}
use lib.Seq.{get_or-drop}
use Rattle.names.proofs.Count.{part-rest}
use Rattle.pieces.specs.Masks.{painters_from, colour_masks, all_masks}
use Rattle.pieces.specs.Firing.{gathered, painted_of}
use Rattle.pieces.proofs.Gathered.{gathered_next, gathered-same}
use borrow.Author.Rules.{rules}
use Rattle.pieces.proofs.masks.painted.Goals as goal

pub returns-then-masks-ne-ALL_MASKS : goal.returns-then-masks-ne-ALL_MASKS
unfolding painted_of
returns-then-masks-ne-ALL_MASKS c = rw (ne_eqb (length c.args.masks.now) all_masks c.if-masks-ne-ALL_MASKS.true)

pub loop-mask-init : goal.loop-mask-init
unfolding gathered
loop-mask-init c = search rules

pub loop-mask-preserved : goal.loop-mask-preserved
loop-mask-preserved c =
    (omega arith, ap₂ bit_or c.loop-mask.invariant.1 refl ∙ sym (gathered_next c.loop-mask.mask-index _))

pub returns : goal.returns
unfolding painted_of
returns c =
    let masks = c.args.masks.now in
    let size = c.if-masks-ne-ALL_MASKS.false in
    let painters = rw (part-rest masks painters_from) at c.loop-mask.invariant.1 in
    let all : c.loop-mask.mask-index ≡ colour_masks = omega (arith, length-drop painters_from masks) in
    rw (eq-eqb (length masks) all_masks size)
    (painters ∙ rw all (gathered-same colour_masks _ _ (λ k h. get_or-drop painters_from masks k 0)))
