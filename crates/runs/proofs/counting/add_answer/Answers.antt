-- The count of sheets and that of the answer are two places.
use Prim.Native.Nat.{◌+◌, ◌<◌}
use native.Mathlib.Omega.{arith}
use lib.ListN.{length, get_or, length-set}
use lib.Seq.{get_or-set_other}
use Rattle.runs.specs.inner.Adding.{answers_from, cells_from, one_more, answered}
use Rattle.runs.proofs.counting.add_answer.Goals as goal
use Rattle.runs.proofs.counting.add_answer.Goals.{After-count_of-at}

place : (c : After-count_of-at) → answers_from + c.count_of-at.result < cells_from
place c = omega (arith, c.count_of-at.ensures, c.requires.counted)

stands : (c : After-count_of-at) → answers_from + c.count_of-at.result < length c.args.figures.now
stands c = omega (arith, place c, c.requires.spare.long)

pub overflow_add-figures-2 : goal.overflow_add-figures-2
overflow_add-figures-2 c =
    let f = c.args.figures.now in
    let at = answers_from + c.count_of-at.result in
    omega (arith, get_or-set_other f 0 at (get_or f 0 0 + 1) 0 (λ e. omega arith), c.requires.spare.more at (omega (arith, place (goal.at.overflow_add-figures-2 c).After-count_of-at)))

pub returns : goal.returns
unfolding answered one_more
returns c = rw c.count_of-at.ensures

pub overflow_add-figures : goal.overflow_add-figures
overflow_add-figures c = omega (arith, c.requires.spare.more 0 (omega arith))

pub bounds-figures-at : goal.bounds-figures-at
bounds-figures-at c = simp length-set (stands (goal.at.bounds-figures-at c).After-count_of-at)

pub bounds-figures-at-2 : goal.bounds-figures-at-2
bounds-figures-at-2 c = simp length-set (stands (goal.at.bounds-figures-at-2 c).After-count_of-at)
