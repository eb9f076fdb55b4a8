-- So many names are written.
use lib.ListN.{length, take}
use Rattle.names.specs.Colours.{names_in}
use Rattle.names.specs.Spelling.{spell_names}
use Rattle.drafts.specs.inner.Wrote.{Wrote}
use Rattle.drafts.proofs.writer.Writer.names.Given as goal

abbrev pub invariant-loop-start : goal.invariant-loop-start
invariant-loop-start l = Wrote l.initial.self (spell_names (take (length l.yielded) (names_in l.s l.c))) l.self
