-- Each of the four ways leads to the next piece with the cell.
use mathlib.Core.Path.{sym, ◌∙◌}
use Rattle.pieces.proofs.NextWith.{one_right, next_row, next-width, next-height}
use Rattle.pieces.proofs.refill.next_with.Goals as goal

pub returns-then-further : goal.returns-then-further
returns-then-further c =
    one_right c.args.size.rows c.args.size.cols c.args.row c.args.column c.args.p c.requires.inside c.requires.has
    (sym c.further.ensures ∙ c.if-further.true)

pub returns-then-further-2 : goal.returns-then-further-2
returns-then-further-2 c =
    rw c.first_with.ensures
    (next_row c.args.size.rows c.args.size.cols c.args.row c.args.column c.args.p c.requires.inside c.requires.has
    (sym c.further.ensures ∙ c.if-further.false) (sym c.further-2.ensures ∙ c.if-further-2.true))

pub returns-then-p-size : goal.returns-then-p-size
returns-then-p-size c =
    rw (c.first_with-then-p-size-2.ensures, c.first_with-then-p-size.ensures)
    (next-width c.args.size.rows c.args.size.cols c.args.row c.args.column c.args.p c.requires.inside c.requires.has
    (sym c.further.ensures ∙ c.if-further.false) (sym c.further-2.ensures ∙ c.if-further-2.false) c.if-p-size.true)

pub returns : goal.returns
returns c =
    rw c.first_with-2.ensures
    (next-height c.args.size.rows c.args.size.cols c.args.row c.args.column c.args.p c.requires.inside c.requires.has
    (sym c.further.ensures ∙ c.if-further.false) (sym c.further-2.ensures ∙ c.if-further-2.false) c.if-p-size.false)
