-- After j turns the row's first j bits stand.
use mathlib.Core.Path.{◌≡◌}
use Rattle.sizes.proofs.CardRows.{row_up_to}
use Rattle.sizes.proofs.card.row.Given as goal

abbrev pub invariant-loop-j : goal.invariant-loop-j
invariant-loop-j l = l.found ≡ row_up_to l.entries l.start l.j
