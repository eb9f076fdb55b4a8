-- A colour's number is written where that of its kind ends.
use native.Mathlib.Omega.{arith}
use Rattle.drafts.proofs.InARow.{wrote_then}
use Rattle.drafts.proofs.writer.Writer.body.Goals as goal

pub returns-in-Colour : goal.returns-in-Colour
returns-in-Colour c = rw c.in-Colour.is (wrote_then (omega arith) c.number.ensures c.number-in-Colour.ensures)
