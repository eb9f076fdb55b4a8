-- The rules so far stand with their numbers, and reading what is left from here gives what reading them all gives.
use mathlib.Core.Path.{◌≡◌}
use Rattle.books.specs.Told.{strict}
use Rattle.books.proofs.RulesGoOn.{Going}
use Rattle.books.proofs.rules.read_rules.Given as goal

abbrev pub invariant-loop-i : goal.invariant-loop-i
invariant-loop-i l = record {
  going : Going (strict l.copies) l.fn.reader.bytes.now l.fn.reader.at l.counts.motifs l.counts.colours l.count l.rules l.numbers l.reader.at l.i;
  same : l.reader.bytes ≡ l.fn.reader.bytes;
}
