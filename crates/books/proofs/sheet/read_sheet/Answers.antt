-- The parts that reading into fresh arrays tells are put together again.
use mathlib.Core.Path.{ap, ◌∙◌}
use Rattle.std.proofs.lemmas.Result.{err_from_is_err_and}
use Rattle.books.specs.Cells.{no_cells}
use Rattle.books.specs.SheetRead.{SheetFigures}
use Rattle.books.proofs.CellsOver.{over-fresh}
use Rattle.books.proofs.Following.{told-some}
use Rattle.books.proofs.SheetInParts.{sheet-whole, refused-whole}
use Rattle.books.proofs.sheet.read_sheet.Goals as goal

pub returns-in_err-count : goal.returns-in_err-count
returns-in_err-count c =
    let e = err_from_is_err_and c.from_residual.result c.from_residual.ensures.1 in
    rw (e.1, e.2) (refused-whole _ _ _ (told-some c.in_err-count.field-0.0) (ap (λ (g : SheetFigures). g.fault) c.in_err-count.ensures.figures))

pub returns : goal.returns
unfolding no_cells
returns c = sheet-whole c.in_ok-count.ensures ∙ over-fresh c.args.press c.args.s.now
