-- So many rules are written.
use lib.ListN.{take}
use Rattle.books.specs.SpellBook.{spell_rules}
use Rattle.drafts.specs.inner.Wrote.{Wrote}
use Rattle.drafts.proofs.writer.Writer.rules.Given as goal

abbrev pub invariant-loop-rule : goal.invariant-loop-rule
invariant-loop-rule l = Wrote l.initial.self (spell_rules (take l.rule-index l.rules)) l.self
