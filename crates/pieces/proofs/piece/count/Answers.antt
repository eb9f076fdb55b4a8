-- A piece is a stretch of rows and a stretch of columns.
use mathlib.Core.Path.{sym, ap₂, ◌∙◌}
use Prim.Native.Nat.{◌*◌}
use Rattle.pieces.proofs.Stretches.{total-stretches}
use Rattle.pieces.proofs.piece.count.Goals as goal

pub returns : goal.returns
returns c =
    let a = c.args in (
      c.times.ensures.0 ∙ ap₂ ◌*◌ c.stretches_of.ensures.0 c.stretches_of-2.ensures.0
          ∙ sym (total-stretches a.size.rows a.size.cols),
      c.times.ensures.1,
    )
