-- After i turns the joins before the i-th are gathered, by i trials.
use mathlib.Core.Path.{sym, ap₂, ◌∙◌}
use native.Mathlib.Omega.{arith}
use lib.Bits.{bit_or}
use Rattle.pieces.specs.Firing.{gathered}
use Rattle.pieces.specs.inner.Along.{all_fired}
use Rattle.pieces.proofs.Gathered.{gathered_next}
use borrow.Author.Rules.{rules}
use Rattle.pieces.proofs.masks.Rows.join.Goals as goal

pub loop-i-init : goal.loop-i-init
unfolding all_fired gathered
loop-i-init c = search rules

pub loop-i-preserved : goal.loop-i-preserved
unfolding all_fired
loop-i-preserved c =
    let (few, gathered, counted) = c.loop-i.invariant in
    (omega arith, ap₂ bit_or gathered c.fired-found.ensures ∙ sym (gathered_next c.loop-i.i _), omega arith)
