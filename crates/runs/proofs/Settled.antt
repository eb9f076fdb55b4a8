-- Two outcomes that a call's contract allows are equal, in what is answered and in what is left: both are those of one outcome of what was lent.
use Prim.Native.Nat.{ℕ}
use mathlib.Core.Path.{◌≡◌}
use mathlib.Core.List.{List}
use Rattle.books.proofs.Settled.{settled}
use Rattle.runs.specs.Outcome.{report, run_report, Answers, Leaves}
use Rattle.runs.specs.declared.calls.RunReport.{RunReport}

pub report-settled : (press : ℕ) (book run work x y : List ℕ) (r q : RunReport) → Answers (report press book run work) r x → Answers (report press book run work) q y → (r ≡ q) × (x ≡ y)
report-settled press book run work x y r q a b =
    let e = settled a.answers b.answers in
    let f = settled a.figures b.figures in
    (λ i. record { answer = e i; figures = f i }, settled a.leaves b.leaves)

pub dv_run_report-settled : (press : ℕ) (book run work slice x y s t : List ℕ) (r q : ℕ)
    → Leaves (run_report press book run work slice) r x s → Leaves (run_report press book run work slice) q y t
    → (r ≡ q) × (x ≡ y) × (s ≡ t)
dv_run_report-settled press book run work slice x y s t r q a b =
    (settled a.answers b.answers, settled a.leaves_work b.leaves_work, settled a.leaves_figures b.leaves_figures)
