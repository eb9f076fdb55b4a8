-- The rules are laid out one after the other: after i turns the first i rows are theirs. More than all are not laid out.
use mathlib.Core.Path.{◌≡◌}
use Rattle.books.specs.RuleBytes.{lent_rules}
use Rattle.books.proofs.lent.lend.Given as goal

abbrev pub invariant-loop-i : goal.invariant-loop-i
invariant-loop-i l = l.rows ≡ lent_rules l.fn.rules l.i
