-- The course begins with the slot of one column or of one row, and its first steps are those of the first cut.
use mathlib.Core.Path.{◌≡◌}
use Prim.Native.Nat.{◌-◌}
use native.Mathlib.Omega.{arith}
use Rattle.pieces.specs.inner.Course.{first_rise, first_fall}
use Rattle.pieces.proofs.Courses.{course-made, rise_begins, fall_begins, reach_some, reach-le}
use Rattle.pieces.proofs.PartsOfPieces.{first-inside}
use Rattle.pieces.proofs.course.Course.begin.Goals as goal

pub slot-first-requires : goal.slot-first-requires
slot-first-requires c =
    let i = c.requires.inside in
    rw c.first_part.ensures (record { room = c.requires.room; inside = first-inside c.args.d 1 i (omega arith) (reach_some c.args.d i) })

pub overflow_sub-rise : goal.overflow_sub-rise
overflow_sub-rise c =
    let a = c.args in
    let s = c.of-s.ensures in
    let fits = rise_begins a.d c.requires.inside (reach_some a.d c.requires.inside) in
    rw (c.times.ensures.0, s.cells_are, s.change_is, s.short_is) fits

pub overflow_sub-s : goal.overflow_sub-s
overflow_sub-s c = omega (arith, c.of-s.ensures.cells_are, c.reach-long.ensures, reach-le c.args.d c.requires.inside)

pub overflow_sub-fall : goal.overflow_sub-fall
overflow_sub-fall c =
    let s = c.of-s.ensures in
    rw (c.times-2.ensures.0, s.cells_are, s.change_is, s.shorter_is, c.reach-long.ensures) (fall_begins c.args.d c.requires.inside)

pub overflow_sub-result : goal.overflow_sub-result
overflow_sub-result c = rw c.reach-long.ensures (reach_some c.args.d c.requires.inside)

pub returns : goal.returns
returns c =
    let a = c.args in
    let s = c.of-s.ensures in
    let rise : c.times.result - c.of-s.result.short ≡ first_rise a.d a.size.rows a.size.cols a.p =
    rw (c.times.ensures.0, s.cells_are, s.change_is, s.short_is) in
    let fall : c.times-2.result - c.of-s.result.shorter ≡ first_fall a.d a.size.rows a.size.cols a.p =
    rw (c.times-2.ensures.0, s.cells_are, s.change_is, s.shorter_is, c.reach-long.ensures) in
    rw c.reach-long.ensures
    (course-made a.d _ _ _ (rw c.first_part.ensures at c.slot-first.ensures.0) rise c.requires.slot_is fall s.change_is)
