-- Each count of an accepted book fits a byte, so that the sum fits.
use mathlib.Core.Path.{sym, ap}
use native.Mathlib.Omega.{arith}
use Prim.Native.Nat.{◌<◌}
use Rattle.books.specs.BookRead.{BookRead}
use Rattle.lookups.proofs.BookCounts.{counts-few, counts-read}
use Rattle.lookups.proofs.book.dv_counts.Goals as goal
use Rattle.lookups.proofs.book.dv_counts.Goals.{In-Ok}

few : (c : In-Ok) → let f = c.in-Ok.f in (f.colours.count < 256) × (f.motifs < 256) × (f.start < 256) × (f.count < 256)
few c = rw (← c.in-Ok.ensures) at (counts-few c.args.book.now)

pub overflow_mul-result : goal.overflow_mul-result
overflow_mul-result c = omega (arith, few (goal.at.overflow_mul-result c).In-Ok)

pub overflow_add-result : goal.overflow_add-result
overflow_add-result c = omega (arith, few (goal.at.overflow_add-result c).In-Ok)

pub overflow_mul-result-2 : goal.overflow_mul-result-2
overflow_mul-result-2 c = omega (arith, few (goal.at.overflow_mul-result-2 c).In-Ok)

pub overflow_add-result-2 : goal.overflow_add-result-2
overflow_add-result-2 c = omega (arith, few (goal.at.overflow_add-result-2 c).In-Ok)

pub overflow_mul-result-3 : goal.overflow_mul-result-3
overflow_mul-result-3 c = omega (arith, few (goal.at.overflow_mul-result-3 c).In-Ok)

pub overflow_add-result-3 : goal.overflow_add-result-3
overflow_add-result-3 c = omega (arith, few (goal.at.overflow_add-result-3 c).In-Ok)

pub overflow_add-result-4 : goal.overflow_add-result-4
overflow_add-result-4 c = omega (arith, few (goal.at.overflow_add-result-4 c).In-Ok)

pub returns : goal.returns
returns c =
    let read = c.in-Ok.ensures in
    rw (ap (λ (b : BookRead). b.family) read) (counts-read c.args.book.now (ap (λ (b : BookRead). b.fault.number) (sym read)))
