-- Each combination of one book is made by its own method.
use Rattle.families.proofs.lent.LentBook.alone.Goals as goal

pub returns-in-Repeated : goal.returns-in-Repeated
returns-in-Repeated c = rw c.in-Repeated.is c.repeated.ensures

pub returns-in-Changed : goal.returns-in-Changed
returns-in-Changed c = rw c.in-Changed.is c.changed.ensures
