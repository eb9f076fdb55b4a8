-- The count, then the names of the first list, then those of the second, each written where the one before it ends.
use native.Mathlib.Omega.{arith}
use Rattle.drafts.proofs.InARow.{wrote_then}
use Rattle.drafts.proofs.SpellingDrafts.{colours-spelled}
use Rattle.drafts.proofs.writer.Writer.colours.Goals as goal

pub returns : goal.returns
returns c =
    let a = c.args in
    rw (colours-spelled a.first.now a.second.now a.own.now a.more.now) (wrote_then (omega arith) c.number.ensures (wrote_then (omega arith) c.names.ensures c.names-2.ensures))
