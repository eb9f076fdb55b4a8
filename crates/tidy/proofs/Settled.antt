-- Two outcomes that the call's contract allows are equal, in the number answered and in the slice left: both are those of one outcome of the lent bytes.
use Prim.Native.Nat.{ℕ}
use mathlib.Core.Path.{◌≡◌}
use mathlib.Core.List.{List}
use Rattle.books.proofs.Settled.{settled}
use Rattle.drafts.specs.Outcome.{Leaves}
use Rattle.tidy.specs.Outcome.{tidying}

pub dv_tidy-settled : (book out x y : List ℕ) (r q : ℕ) → Leaves (tidying book out) r x → Leaves (tidying book out) q y → (r ≡ q) × (x ≡ y)
dv_tidy-settled book out x y r q a b = (settled a.answers b.answers, settled a.leaves b.leaves)
