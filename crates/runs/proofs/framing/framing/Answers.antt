-- The fault of what is left from here is that of the whole run.
use mathlib.Core.Path.{◌≡◌, sym, ap, ◌∙◌, subst}
use native.Mathlib.Omega.{arith}
use lib.ListN.{length}
use borrow.Author.Tests.{lt-ltb}
use Rattle.std.proofs.lemmas.Result.{err_from_is_err_and}
use Rattle.names.specs.Fault.{Fault, told_fault}
use Rattle.names.proofs.Refusing.{number-some}
use Rattle.runs.specs.Run.{Frame, most_bytes, frame_at, framed, left, faults, framing}
use Rattle.runs.proofs.WalkingRuns.{FrameLies, frame-lies, left_end, left-stop, left-more, framing-left}
use Rattle.runs.proofs.framing.framing.Goals as goal
use Rattle.runs.proofs.framing.framing.Goals.{In_ok-frame}

pub returns-then-run-gt-MOST_BYTES : goal.returns-then-run-gt-MOST_BYTES
unfolding framing
returns-then-run-gt-MOST_BYTES c = rw (lt-ltb most_bytes (length c.args.run.now) (omega (arith, c.if-run-gt-MOST_BYTES.true))) (ap told_fault c.at.ensures)

pub loop-at-init : goal.loop-at-init
loop-at-init c = (omega arith, sym (framing-left _ (omega (arith, c.if-run-gt-MOST_BYTES.false))))

pub returns-in_err-frame : goal.returns-in_err-frame
returns-in_err-frame c =
    let p = err_from_is_err_and c.from_residual.result c.from_residual.ensures.1 in
    let e = ap (λ (f : Frame). f.fault) c.in_err-frame.ensures in
    let f = c.in_err-frame.field-0.0 in
    let bad : (frame_at c.args.run.now c.loop-at.at).fault.number ≡ 0 → ⊥ = λ z. omega (arith, ap (λ (f : Fault). f.number) e, number-some f.refusal) in
    rw (p.1, p.2) (e ∙ sym (left-stop faults _ _ c.loop-at-test.true bad) ∙ c.loop-at.invariant.1)

-- A length with no fault: its sheet lies after it, within the run.
good : (c : In_ok-frame) → (frame_at c.args.run.now c.loop-at.at).fault.number ≡ 0
good c = ap (λ (f : Frame). f.fault.number) (sym c.in_ok-frame.ensures)

lies : (c : In_ok-frame) → FrameLies c.args.run.now c.loop-at.at (framed c.in_ok-frame.frame.start c.in_ok-frame.frame.end)
lies c = subst (FrameLies c.args.run.now c.loop-at.at) (sym c.in_ok-frame.ensures) (frame-lies _ _ (good c))

pub loop-at-smaller : goal.loop-at-smaller
loop-at-smaller c = let f = lies (goal.at.loop-at-smaller c).In_ok-frame in omega (arith, f.after, f.ordered, f.inside)

pub loop-at-preserved : goal.loop-at-preserved
loop-at-preserved c =
    let here = (goal.at.loop-at-preserved c).In_ok-frame in (
      (lies here).inside,
      ap (λ (f : Frame). left faults c.args.run.now f.end) c.in_ok-frame.ensures ∙ sym (left-more faults _ _ c.loop-at-test.true (good here)) ∙ c.loop-at.invariant.1,
    )

pub returns : goal.returns
returns c = sym (left_end faults _ _ c.loop-at-test.false) ∙ c.loop-at.invariant.1
