-- The tests are the definition's.
use mathlib.Core.Path.{sym, ◌∙◌}
use native.Mathlib.Omega.{arith}
use borrow.Author.Tests.{le-ltb, lt-ltb, leb-true, leb-false}
use Rattle.drafts.specs.Draft.{counts_fit?}
use Rattle.drafts.proofs.writing.counts_fit.Goals as goal
use Rattle.drafts.proofs.writing.counts_fit.Goals.{then-d-le-MOST_COLOURS, else-d-le-MOST_COLOURS}

pub returns-then-d-le-MOST_COLOURS-2 : goal.returns-then-d-le-MOST_COLOURS-2
unfolding counts_fit?
returns-then-d-le-MOST_COLOURS-2 c =
    elim c.if-d-le-MOST_COLOURS.branch [
      | then-d-le-MOST_COLOURS w ↦ simp (le-ltb _ _ w.if-d-le-MOST_COLOURS.true, le-ltb _ _ (leb-true _ _ (sym w.value-is ∙ c.if-d-le-MOST_COLOURS-2.true)))
      | else-d-le-MOST_COLOURS w ↦ absurd (omega (arith, w.if-d-le-MOST_COLOURS.false, leb-true _ _ (sym w.value-is ∙ c.if-d-le-MOST_COLOURS-2.true)))
    ]

pub returns-else-d-le-MOST_COLOURS-2 : goal.returns-else-d-le-MOST_COLOURS-2
unfolding counts_fit?
returns-else-d-le-MOST_COLOURS-2 c =
    elim c.if-d-le-MOST_COLOURS.branch [
      | then-d-le-MOST_COLOURS w ↦ simp (le-ltb _ _ w.if-d-le-MOST_COLOURS.true, lt-ltb _ _ (leb-false _ _ (sym w.value-is ∙ c.if-d-le-MOST_COLOURS-2.false)), c.if-d-le-MOST_COLOURS-2.false)
      | else-d-le-MOST_COLOURS w ↦ simp (lt-ltb _ _ w.if-d-le-MOST_COLOURS.false, c.if-d-le-MOST_COLOURS-2.false)
    ]
