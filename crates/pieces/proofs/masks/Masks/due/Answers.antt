-- One row and one column make a cell.
use Prim.Native.Nat.{◌+◌}
use mathlib.Core.Path.{ap}
use borrow.Author.Tests.{eq-eqb, ne_eqb}
use Rattle.pieces.specs.Refill.{due_by}
use Rattle.pieces.specs.declared.masks.Joined.{Joined}
use Rattle.pieces.proofs.masks.Masks.due.Goals as goal

pub returns-then-x-eq2 : goal.returns-then-x-eq2
unfolding due_by
returns-then-x-eq2 c = let p = c.args.x.piece in rw (eq-eqb (p.height + p.width) 2 c.if-x-eq2.true)

pub returns : goal.returns
unfolding due_by
returns c =
    let p = c.args.x.piece in
    rw (ne_eqb (p.height + p.width) 2 c.if-x-eq2.false) (ap (λ (x : Joined). x.heads) c.entry_of.ensures)
