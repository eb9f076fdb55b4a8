-- Two outcomes that a call's contract allows are equal, in what is answered and in the slice left: both are those of one outcome of the lent bytes.
use Prim.Native.Nat.{ℕ}
use mathlib.Core.Path.{◌≡◌}
use mathlib.Core.List.{List}
use Rattle.names.proofs.Settled.{Settles, settles}
use Rattle.books.proofs.Settled.{settled}
use Rattle.sizes.specs.declared.calls.CardAnswer.{CardAnswer}
use Rattle.sizes.specs.Outcome.{size_card, Answers, Leaves}
use Rattle.sizes.specs.Table.{has_size_by}
use Rattle.pieces.specs.declared.masks.Joins.{Joins}

pub size_card-settled : (press : ℕ) (book slice x y : List ℕ) (r q : CardAnswer) → Answers (size_card press book slice) r x → Answers (size_card press book slice) q y → (r ≡ q) × (x ≡ y)
size_card-settled press book slice x y r q a b =
    let e = settled a.answers b.answers in
    let f = settled a.counts b.counts in
    (λ i. record { answer = e i; sizes = f i }, settled a.leaves b.leaves)

pub dv_size_card-settled : (press : ℕ) (book slice x y : List ℕ) (r q : ℕ) → Leaves (size_card press book slice) r x → Leaves (size_card press book slice) q y → (r ≡ q) × (x ≡ y)
dv_size_card-settled press book slice x y r q a b = (settled a.answers b.answers, settled a.leaves b.leaves)

pub has_size-settled : (press : ℕ) (masks : List ℕ) (j : Joins) (a m n : ℕ) → Settles (has_size_by press masks j a m n)
has_size-settled press masks j a m n = settles _
