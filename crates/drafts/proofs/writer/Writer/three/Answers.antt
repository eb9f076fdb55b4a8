-- Each number is written where the one before it ends.
use native.Mathlib.Omega.{arith}
use Rattle.drafts.proofs.InARow.{wrote_then}
use Rattle.drafts.proofs.writer.Writer.three.Goals as goal

pub returns : goal.returns
returns c = wrote_then (omega arith) c.number.ensures (wrote_then (omega arith) c.number-2.ensures c.number-3.ensures)
