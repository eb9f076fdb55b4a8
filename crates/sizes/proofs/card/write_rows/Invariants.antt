-- After i turns the first i rows stand at the front of the slice, and their bits are counted.
use mathlib.Core.Path.{◌≡◌}
use mathlib.Core.List.{◌++◌}
use Prim.Native.Nat.{◌*◌, ◌≤◌}
use lib.ListN.{drop}
use Rattle.sizes.specs.Card.{set_bits}
use Rattle.sizes.specs.inner.Rows.{rows_of}
use Rattle.sizes.proofs.card.write_rows.Given as goal

abbrev pub invariant-loop-i : goal.invariant-loop-i
invariant-loop-i l =
    record {
      few : l.count ≤ l.i * l.most;
      counted : l.count ≡ set_bits (rows_of l.sizes l.most l.start l.i);
      written : l.card ≡ rows_of l.sizes l.most l.start l.i ++ drop l.i l.initial.card;
    }
