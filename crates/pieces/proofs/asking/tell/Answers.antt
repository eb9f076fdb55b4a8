-- Each test is one of the definition's; where none ends it, the bit is read in the table that was filled.
use mathlib.Core.Path.{sym, ap, ◌∙◌}
use Prim.Native.Nat.{◌≤◌}
use native.Mathlib.Nat.{le_trans, lt_of_lt_of_le, le_of_eq}
use borrow.Author.Tests.{lt-ltb, le-ltb}
use lib.ListN.{length}
use Rattle.pieces.specs.Pieces.{total}
use Rattle.pieces.specs.Asking.{judged_by, told_by}
use Rattle.pieces.proofs.ServingMasks.{fitting-fit}
use Rattle.pieces.proofs.asking.tell.Goals as goal
use Rattle.pieces.proofs.asking.tell.Goals.{After-fits}

enough : (c : After-fits) → let a = c.args in total a.s.size.rows a.s.size.cols ≤ length a.work.now
enough c = le_trans (le_of_eq (sym c.count.ensures.0)) c.if-work-count.false

pub returns-then-work-count : goal.returns-then-work-count
unfolding told_by
returns-then-work-count c =
    let a = c.args in
    let short = lt_of_lt_of_le c.if-work-count.true (le_of_eq c.count.ensures.0) in
    rw (lt-ltb (length a.work.now) (total a.s.size.rows a.s.size.cols) short)

pub invariant_of-fill_from : goal.invariant_of-fill_from
invariant_of-fill_from c = record { fit = fitting-fit _ _ (sym c.fits.ensures ∙ c.if-fits.true) }

pub returns-then-fits : goal.returns-then-fits
unfolding told_by
returns-then-fits c =
    let a = c.args in
    rw (
      c.reply.ensures,
      le-ltb (length a.work.now) (total a.s.size.rows a.s.size.cols) (enough (goal.at.returns-then-fits c).After-fits),
      sym c.fits.ensures ∙ c.if-fits.true,
    )
    (ap (judged_by a.s.size.rows a.s.size.cols a.start) c.fill_from.ensures.0)

pub returns : goal.returns
unfolding told_by
returns c =
    let a = c.args in
    rw (
      le-ltb (length a.work.now) (total a.s.size.rows a.s.size.cols) (enough (goal.at.returns c).After-fits),
      sym c.fits.ensures ∙ c.if-fits.false,
    )
