-- The two directions are the definitions'.
use native.Mathlib.Omega.{arith}
use mathlib.Core.Path.{refl}
use Rattle.pieces.proofs.course.Span.of.Goals as goal

pub returns-in-Across : goal.returns-in-Across
returns-in-Across c =
    let room = c.requires.room in
    rw c.in-Across.is (record {
      cells_are = refl;
      change_is = refl;
      short_is = refl;
      shorter_is = refl;
      cells_few = room.cols_few;
      change_few = omega (arith, room.rows_few);
    })

pub returns-in-Down : goal.returns-in-Down
returns-in-Down c =
    rw c.in-Down.is (record {
      cells_are = refl;
      change_is = c.stretches_of.ensures.0;
      short_is = c.stretches_of-in-Down.ensures.0;
      shorter_is = c.stretches_of-in-Down-2.ensures.0;
      cells_few = c.requires.room.rows_few;
      change_few = c.stretches_of.ensures.1;
    })
