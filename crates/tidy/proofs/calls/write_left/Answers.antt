-- What is left of the family is a draft that fits, and the writer answers.
use Rattle.tidy.proofs.Calling.{left-written}
use Rattle.tidy.proofs.calls.write_left.Goals as goal

pub returns-in-Ok : goal.returns-in-Ok
returns-in-Ok c =
    left-written c.args.book.now c.args.untidy.family.now c.args.marks c.args.untidy.kept c.cleared.ensures c.no_colours.ensures
    (rw c.in-Ok.is at c.write_book.ensures) (rw c.answer.ensures at c.pack.ensures)

pub returns-in-Err : goal.returns-in-Err
returns-in-Err c =
    left-written c.args.book.now c.args.untidy.family.now c.args.marks c.args.untidy.kept c.cleared.ensures c.no_colours.ensures
    (rw c.in-Err.is at c.write_book.ensures) (rw (c.unblamed.ensures, c.number.ensures) at c.pack-in-Err.ensures)
