-- What is asked of the sheet serves each step: after its answer the counts have room for its cells.
use native.Mathlib.Omega.{arith}
use Rattle.runs.proofs.AddingCells.{cells-next, accepted-asked, declined-asked}
use Rattle.runs.proofs.counting.add_asked.Goals as goal

pub add_cells-requires : goal.add_cells-requires
add_cells-requires c =
    rw c.add_answer.ensures (cells-next _ _ _ c.requires (omega (arith, c.if-r-number.true, c.number.ensures)))

pub returns-then-r-number : goal.returns-then-r-number
returns-then-r-number c =
    accepted-asked _ _ _ _ _ _ (omega (arith, c.if-r-number.true, c.number.ensures)) c.add_answer.ensures c.add_cells.ensures c.add_ticket.ensures

pub returns-else-r-number : goal.returns-else-r-number
returns-else-r-number c = declined-asked _ _ _ _ (λ z. omega (arith, c.if-r-number.false, c.number.ensures)) c.add_answer.ensures
