-- Two outcomes that a call's contract allows are equal, in what is answered and in the slice left: both are those of one outcome of the lent bytes.
use Prim.Native.Nat.{ℕ}
use mathlib.Core.Path.{◌≡◌}
use mathlib.Core.List.{List}
use Rattle.books.proofs.Settled.{settled}
use Rattle.reasons.specs.declared.calls.WhyNot.{WhyNot}
use Rattle.reasons.specs.Why.{why_not, Answers, Leaves}

module _ (press : ℕ) (book sheet work x y : List ℕ) where
  pub why_not-settled : (r q : WhyNot) → Answers (why_not press book sheet work) r x → Answers (why_not press book sheet work) q y → (r ≡ q) × (x ≡ y)
  why_not-settled r q a b =
      let e = settled a.answers b.answers in
      let f = settled a.reasons b.reasons in
      (λ i. record { answer = e i; reason = f i }, settled a.leaves b.leaves)

  pub dv_why_not-settled : (r q : ℕ) → Leaves (why_not press book sheet work) r x → Leaves (why_not press book sheet work) q y → (r ≡ q) × (x ≡ y)
  dv_why_not-settled r q a b = (settled a.answers b.answers, settled a.leaves b.leaves)
