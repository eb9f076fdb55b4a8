-- At each place the figures are those of the sheets before it.
use Prim.Native.Nat.{◌≤◌, ◌<◌}
use mathlib.Core.Path.{◌≡◌, sym, subst}
use native.Mathlib.Omega.{arith}
use lib.ListN.{length}
use Rattle.runs.specs.Run.{frame_at, framed}
use Rattle.runs.proofs.SheetsSoFar.{begins, frame-good, has-spare, one_more, all-counted}
use Rattle.runs.proofs.ToldFrames.{frame-there, frame-is}
use Rattle.runs.proofs.WalkingRuns.{FrameLies, frame-lies}
use Rattle.runs.proofs.report.Asker.add_sheets.Goals as goal
use Rattle.runs.proofs.report.Asker.add_sheets.Goals.{After-frame_at, After-unwrap-frame}

pub loop-at-init : goal.loop-at-init
loop-at-init c = begins _ _ _ _ _ c.requires.run_fine c.requires.none

before-end : (c : After-frame_at) → c.loop-at.at < length c.args.run.now
before-end c = omega (arith, c.loop-at-test.true)

good : (c : After-frame_at) → (frame_at c.args.run.now c.loop-at.at).fault.number ≡ 0
good c = frame-good _ _ _ _ _ c.requires.run_fine _ _ _ c.loop-at.invariant (before-end c)

pub unwrap-frame-requires : goal.unwrap-frame-requires
unwrap-frame-requires c = frame-there _ _ c.frame_at.ensures (good c)

-- The sheet that stands at a place, ...
is : (c : After-unwrap-frame) → frame_at c.args.run.now c.loop-at.at ≡ framed c.unwrap-frame.result.start c.unwrap-frame.result.end
is c = frame-is _ _ _ c.frame_at.ensures c.unwrap-frame.ensures

-- ... after its length and within the run.
lies : (c : After-unwrap-frame) → (frame_at c.args.run.now c.loop-at.at).fault.number ≡ 0 → FrameLies c.args.run.now c.loop-at.at (framed c.unwrap-frame.result.start c.unwrap-frame.result.end)
lies c z = subst (FrameLies c.args.run.now c.loop-at.at) (is c) (frame-lies _ _ z)

pub add_sheet-requires : goal.add_sheet-requires
add_sheet-requires c =
    let p = c.requires in
    let inv = c.loop-at.invariant in
    record { work_long = omega (arith, inv.work_long, p.work_long); spare = has-spare _ _ _ _ _ p.run_fine _ _ _ inv }

pub loop-at-smaller : goal.loop-at-smaller
loop-at-smaller c =
    let f = lies (goal.at.loop-at-smaller c).After-unwrap-frame (good (goal.at.loop-at-smaller c).After-frame_at) in
    omega (arith, f.after, f.ordered, f.inside)

pub loop-at-preserved : goal.loop-at-preserved
loop-at-preserved c =
    one_more _ _ _ _ _ c.requires.run_fine _ _ _ c.loop-at.invariant (before-end (goal.at.loop-at-preserved c).After-frame_at) _ (sym (is (goal.at.loop-at-preserved c).After-unwrap-frame)) _ _ c.add_sheet.ensures c.add_sheet.auto.work c.add_sheet.auto.figures

pub returns : goal.returns
returns c =
    let ended : length c.args.run.now ≤ c.loop-at.at = omega (arith, c.loop-at-test.false) in
    all-counted _ _ _ _ _ c.requires.run_fine _ _ _ c.loop-at.invariant ended

pub slice_bounds-add_sheet-count : goal.slice_bounds-add_sheet-count
slice_bounds-add_sheet-count c = (lies (goal.at.slice_bounds-add_sheet-count c).After-unwrap-frame (good (goal.at.slice_bounds-add_sheet-count c).After-frame_at)).ordered

pub slice_bounds-add_sheet-start : goal.slice_bounds-add_sheet-start
slice_bounds-add_sheet-start c = (lies (goal.at.slice_bounds-add_sheet-start c).After-unwrap-frame (good (goal.at.slice_bounds-add_sheet-start c).After-frame_at)).ordered

pub slice_bounds-add_sheet-end : goal.slice_bounds-add_sheet-end
slice_bounds-add_sheet-end c = (lies (goal.at.slice_bounds-add_sheet-end c).After-unwrap-frame (good (goal.at.slice_bounds-add_sheet-end c).After-frame_at)).inside
