-- The book is its colours, its figures and its rules, each written where the one before it ends.
use native.Mathlib.Omega.{arith}
use Rattle.drafts.proofs.InARow.{wrote_then}
use Rattle.drafts.proofs.SpellingDrafts.{draft-spelled}
use Rattle.drafts.proofs.writer.Writer.book.Goals as goal

pub returns : goal.returns
returns c =
    let a = c.args in
    rw (draft-spelled a.first.now a.second.now a.d.now c.requires) (wrote_then (omega arith) c.colours.ensures (wrote_then (omega arith) c.three.ensures c.rules.ensures))
