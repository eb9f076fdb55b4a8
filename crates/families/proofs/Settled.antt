-- Two outcomes that a call's contract allows are equal, in the number answered and in the slice left: both are those of one outcome of the lent bytes.
use Prim.Native.Nat.{ℕ}
use mathlib.Core.Path.{◌≡◌}
use mathlib.Core.List.{List}
use Rattle.books.specs.Contents.{Contents}
use Rattle.books.proofs.Settled.{settled}
use Rattle.drafts.specs.Outcome.{Outcome, Leaves}
use Rattle.families.specs.Outcome.{on_one, on_two}
use Rattle.families.specs.EachCall.{EachCall}
use Rattle.families.proofs.Keeping.{each-call}

-- Two calls that leave an outcome answer the same and leave the same.
abbrev pub Settles : Outcome → Type 0
Settles o = (r q : ℕ) (x y : List ℕ) → Leaves o r x → Leaves o q y → (r ≡ q) × (x ≡ y)

abbrev pub SettlesTwo : (Contents → Contents → Contents) → Type 0
SettlesTwo op = (first second out : List ℕ) → Settles (on_two op first second out)

abbrev pub SettlesOne : (Contents → Contents) → Type 0
SettlesOne op = (book out : List ℕ) → Settles (on_one op book out)

leaves-settled : (o : Outcome) → Settles o
leaves-settled o r q x y a b = (settled a.answers b.answers, settled a.leaves b.leaves)

pub calls-settled : EachCall SettlesTwo SettlesOne
calls-settled =
    each-call SettlesTwo SettlesOne (λ op _ first second out. leaves-settled (on_two op first second out)) (λ op _ book out. leaves-settled (on_one op book out))
