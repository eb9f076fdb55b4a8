-- 21 is answered where there is no such press, and a slice that is too short with 13; else the figures stand in the slice as they were reported into it.
use mathlib.Core.Path.{◌∙◌}
use native.Mathlib.Omega.{arith}
use Rattle.books.specs.Press.{IsPress}
use Rattle.runs.proofs.ReportingRuns.{no_such_press, short-slice, long-slice, leaves-report}
use Rattle.runs.proofs.calls.dv_run_report.Goals as goal

pub returns-then-press-ge-PRESSES : goal.returns-then-press-ge-PRESSES
returns-then-press-ge-PRESSES c =
    let none : IsPress c.args.press → ⊥ = λ is. omega (arith, c.if-press-ge-PRESSES.true) in
    leaves-report _ _ _ _ _ _ _ _ _ (no_such_press _ _ _ _ _ none _ c.answer.ensures) c.pack.ensures

pub returns-then-figures-lt-FIGURES_LONG : goal.returns-then-figures-lt-FIGURES_LONG
returns-then-figures-lt-FIGURES_LONG c =
    leaves-report _ _ _ _ _ _ _ _ _
    (short-slice _ _ _ _ _ (omega (arith, c.if-press-ge-PRESSES.false)) (omega (arith, c.if-figures-lt-FIGURES_LONG.true)) _ c.answer-then-figures-lt-FIGURES_LONG.ensures) c.pack-then-figures-lt-FIGURES_LONG.ensures

pub returns : goal.returns
returns c =
    leaves-report _ _ _ _ _ _ _ _ _ (c.report_into.ensures ∙ long-slice _ _ _ _ _ (omega (arith, c.if-press-ge-PRESSES.false)) (omega (arith, c.if-figures-lt-FIGURES_LONG.false))) c.pack-2.ensures
