-- The rules are numbered one after the other: after i turns the first i numbers are theirs. More than all are not numbered.
use mathlib.Core.Path.{◌≡◌}
use Rattle.books.specs.RuleNumbers.{numbers_of}
use Rattle.books.proofs.equal.numbers_of.Given as goal

abbrev pub invariant-loop-i : goal.invariant-loop-i
invariant-loop-i l = l.numbers ≡ numbers_of l.fn.rules l.i
