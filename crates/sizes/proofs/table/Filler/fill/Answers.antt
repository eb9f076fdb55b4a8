-- The entries before the slot that is due stand.
use mathlib.Core.Path.{◌≡◌, refl}
use native.Mathlib.Omega.{arith}
use Rattle.sizes.specs.Table.{with_entries, sizes_by}
use Rattle.sizes.proofs.EntriesRight.{one_written}
use Rattle.sizes.proofs.table.Filler.fill.Goals as goal

pub loop-due-init : goal.loop-due-init
unfolding with_entries
loop-due-init c = refl

pub loop-due-preserved : goal.loop-due-preserved
loop-due-preserved c = one_written _ _ _ _ _ _ (omega arith) c.loop-due.invariant c.entry_at-e.ensures

pub returns : goal.returns
unfolding sizes_by
returns c =
    let e : c.loop-due.due ≡ c.args.end = omega arith in
    rw (← e, ← c.painted.ensures) c.loop-due.invariant
