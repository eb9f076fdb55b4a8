-- The answer of a recolouring, packed.
use Rattle.desk.proofs.dv_recolour.Goals as goal

pub returns : goal.returns
returns c =
    let left = c.recolour.ensures in
    record { answers = rw (← left.answers) c.pack.ensures; leaves_sheet = left.leaves_sheet; leaves_work = left.leaves_work }
