-- The three figures stand at three places.
use Prim.Native.Nat.{ℕ, max}
use mathlib.Core.Path.{◌≡◌, ap, ◌∙◌}
use native.Mathlib.Omega.{arith}
use lib.ListN.{get_or}
use lib.Seq.{get_or-set_other}
use Rattle.runs.specs.inner.Adding.{least_at, greatest_at, ticketed}
use Rattle.runs.proofs.counting.add_ticket.Goals as goal

pub returns : goal.returns
unfolding ticketed
returns c =
    let f = c.args.figures.now in
    let apart = get_or-set_other f least_at greatest_at c.least_with.result 0 (λ e. omega arith) in
    let greatest : c.max.result ≡ max (get_or f greatest_at 0) c.args.ticket = c.max.ensures ∙ ap (λ (x : ℕ). max x c.args.ticket) apart in
    rw (greatest, c.least_with.ensures)
