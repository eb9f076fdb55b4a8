-- The body is written where the head ends.
use native.Mathlib.Omega.{arith}
use Rattle.drafts.proofs.InARow.{wrote_then}
use Rattle.drafts.proofs.writer.Writer.rule.Goals as goal

pub returns : goal.returns
returns c = wrote_then (omega arith) c.number.ensures c.body.ensures
