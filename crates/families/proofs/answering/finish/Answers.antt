-- A draft is written, and the writer answers.
use Rattle.families.proofs.Finishing.{drafted-leaves}
use Rattle.families.proofs.answering.finish.Goals as goal

pub returns-in-Ok : goal.returns-in-Ok
returns-in-Ok c =
    rw c.in-Some.is (drafted-leaves (rw c.in-Some.is at c.requires) (rw c.in-Ok.is at c.write_book.ensures) (rw c.answer.ensures at c.pack.ensures))

pub returns-in-Err : goal.returns-in-Err
returns-in-Err c =
    rw c.in-Some.is
    (drafted-leaves (rw c.in-Some.is at c.requires) (rw c.in-Err.is at c.write_book.ensures) (rw (c.unblamed.ensures, c.number.ensures) at c.pack-in-Err.ensures))
