-- The answer, packed.
use Rattle.plain.proofs.calls.dv_plain.Goals as goal

pub returns : goal.returns
returns c = rw (← c.plain.ensures) c.pack.ensures
