-- At each place the sheets before it are behind, and the one that is looked for is the first with none before it.
use Prim.Native.Nat.{◌<◌}
use mathlib.Core.Path.{◌≡◌, sym, ◌∙◌, subst}
use native.Mathlib.Omega.{arith}
use lib.ListN.{length}
use Rattle.names.specs.Bytes.{Bytes}
use Rattle.runs.specs.Run.{frame_at, framed, framing}
use Rattle.runs.proofs.LookingUp.{begins, frame-good, sheet-found, sheet-passed, none_left}
use Rattle.runs.proofs.ToldFrames.{run-fine, frame-there, frame-is}
use Rattle.runs.proofs.WalkingRuns.{FrameLies, frame-lies, run-few}
use Rattle.runs.proofs.numbered.dv_run_sheet.Goals as goal
use Rattle.runs.proofs.numbered.dv_run_sheet.Goals.{After-frame_at, After-unwrap-f}

pub loop-at-init : goal.loop-at-init
loop-at-init c = begins c.args.run.now (run-fine _ _ c.framing.ensures (sym c.is_err.ensures.value ∙ c.if-is_err.false)) c.args.number

fine : (c : After-frame_at) → (framing c.args.run.now).number ≡ 0
fine c = run-fine _ _ c.framing.ensures (sym c.is_err.ensures.value ∙ c.if-is_err.false)

bytes : (c : After-frame_at) → Bytes c.args.run.now
bytes c i = (c.type_inv.run i).fits

before-end : (c : After-frame_at) → c.loop-at.at < length c.args.run.now
before-end c = omega (arith, c.loop-at-test.true)

good : (c : After-frame_at) → (frame_at c.args.run.now c.loop-at.at).fault.number ≡ 0
good c = frame-good _ (fine c) _ (bytes c) _ _ c.loop-at.invariant (before-end c)

pub unwrap-f-requires : goal.unwrap-f-requires
unwrap-f-requires c = frame-there _ _ c.frame_at.ensures (good c)

-- The sheet that stands at a place, ...
is : (c : After-unwrap-f) → frame_at c.args.run.now c.loop-at.at ≡ framed c.unwrap-f.result.start c.unwrap-f.result.end
is c = frame-is _ _ _ c.frame_at.ensures c.unwrap-f.ensures

-- ... after its length and within the run.
lies : (c : After-unwrap-f) → (frame_at c.args.run.now c.loop-at.at).fault.number ≡ 0 → FrameLies c.args.run.now c.loop-at.at (framed c.unwrap-f.result.start c.unwrap-f.result.end)
lies c z = subst (FrameLies c.args.run.now c.loop-at.at) (is c) (frame-lies _ _ z)

pub returns-then-before-eq0 : goal.returns-then-before-eq0
returns-then-before-eq0 c =
    rw (is (goal.at.returns-then-before-eq0 c).After-unwrap-f) at (sheet-found _ (fine (goal.at.returns-then-before-eq0 c).After-frame_at) _ (bytes (goal.at.returns-then-before-eq0 c).After-frame_at) _ _ c.loop-at.invariant (before-end (goal.at.returns-then-before-eq0 c).After-frame_at) c.if-before-eq0.true)

pub loop-at-smaller : goal.loop-at-smaller
loop-at-smaller c =
    let f = lies (goal.at.loop-at-smaller c).After-unwrap-f (good (goal.at.loop-at-smaller c).After-frame_at) in
    omega (arith, f.after, f.ordered, f.inside)

pub loop-at-preserved : goal.loop-at-preserved
loop-at-preserved c =
    rw (is (goal.at.loop-at-preserved c).After-unwrap-f) at (sheet-passed _ (fine (goal.at.loop-at-preserved c).After-frame_at) _ (bytes (goal.at.loop-at-preserved c).After-frame_at) _ _ c.loop-at.invariant (before-end (goal.at.loop-at-preserved c).After-frame_at) c.if-before-eq0.false)

pub returns : goal.returns
returns c =
    let run-bytes : Bytes c.args.run.now = λ i. (c.type_inv.run i).fits in
    sym (none_left _ (run-fine _ _ c.framing.ensures (sym c.is_err.ensures.value ∙ c.if-is_err.false)) _ run-bytes _ _ c.loop-at.invariant (omega (arith, c.loop-at-test.false)))

pub overflow_sub-result : goal.overflow_sub-result
overflow_sub-result c = (lies (goal.at.overflow_sub-result c).After-unwrap-f (good (goal.at.overflow_sub-result c).After-frame_at)).ordered

pub overflow_mul-result : goal.overflow_mul-result
overflow_mul-result c =
    let f = lies (goal.at.overflow_mul-result c).After-unwrap-f (good (goal.at.overflow_mul-result c).After-frame_at) in
    omega (arith, f.inside, run-few _ (fine (goal.at.overflow_mul-result c).After-frame_at))

pub overflow_add-result : goal.overflow_add-result
overflow_add-result c =
    let f = lies (goal.at.overflow_add-result c).After-unwrap-f (good (goal.at.overflow_add-result c).After-frame_at) in
    omega (arith, f.ordered, f.inside, run-few _ (fine (goal.at.overflow_add-result c).After-frame_at))
