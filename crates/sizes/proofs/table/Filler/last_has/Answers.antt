-- The size's entry is the last that is filled.
use mathlib.Core.Path.{ap, ◌∙◌}
use mathlib.Core.List.{List}
use Prim.Native.Nat.{ℕ, ◌-◌}
use lib.ListN.{get_or}
use Rattle.names.specs.Bits.{is_set}
use Rattle.sizes.specs.Table.{last_by}
use Rattle.sizes.proofs.table.Filler.last_has.Goals as goal

pub returns : goal.returns
unfolding last_by
returns g c = c.is_set.ensures ∙ ap (λ (l : List ℕ). is_set (get_or l (c.args.end - 1) 0) c.args.motif) c.fill.ensures
