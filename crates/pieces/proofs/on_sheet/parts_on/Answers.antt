-- A piece of the sheet that is cut in its reach has the two parts of the cut, since nothing of them wraps.
use mathlib.Core.Path.{sym, ◌∙◌}
use Rattle.pieces.proofs.Cutting.{cut_in}
use Rattle.pieces.proofs.PiecesOnSheets.{lies-told}
use Rattle.pieces.proofs.on_sheet.parts_on.Goals as goal

pub parts_of-requires : goal.parts_of-requires
parts_of-requires c =
    let (room, inside) = lies-told _ _ (sym c.lies_on.ensures ∙ c.if-lies_on.true) in
    cut_in _ _ _ inside room _ _ (rw c.reach.ensures at c.if-k-reach.true)
