-- The cells begin the table, and the other pieces are joined from there.
use mathlib.Core.Path.{ap, ◌∙◌}
use Prim.Native.Nat.{ℕ}
use Rattle.pieces.specs.Firing.{joins_fired}
use Rattle.pieces.specs.Filling.{joined_by, painted_by, filled_by}
use Rattle.pieces.proofs.masks.Masks.fill_from.Goals as goal

pub returns : goal.returns
unfolding filled_by
returns c =
    let a = c.args in
    let m = a.self.now in
    let painted = c.paint_cells.ensures ∙ ap (λ (k : ℕ). painted_by m.masks.now a.colours.now k a.work.now) c.times.ensures.0 in
    (c.fill.ensures.0 ∙ ap (joined_by (joins_fired m.masks.now m.joins) a.size.rows a.size.cols) painted, c.fill.ensures.1)
