-- The sheet is numbered by the colours kept; a refused one is blamed, and another is told by the masks.
use mathlib.Core.Path.{refl, ap}
use Rattle.std.specs.Prelude.{Ok}
use Rattle.books.specs.Told.{told_figures}
use Rattle.pieces.specs.Asking.{sheet_told, ask_sheet}
use Rattle.pieces.specs.Split.{told_split}
use Rattle.pieces.proofs.AskingSheets.{read-shows, refused-sheet}
use Rattle.pieces.proofs.asking.ask_sheet.Goals as goal

pub tell-requires : goal.tell-requires
tell-requires c =
    let a = c.args in
    read-shows a.press a.book.now a.split.now.colours a.sheet.now a.cells.now c.in-Ok.ensures refl

pub returns-in-Ok : goal.returns-in-Ok
unfolding ask_sheet
returns-in-Ok c =
    let is = c.in-Ok.ensures in
    rw (← is.figures, ← is.cells, c.answer.ensures) (ap (sheet_told (told_figures (Ok c.in-Ok.s)) _) c.tell.ensures)

pub returns-in-Err : goal.returns-in-Err
returns-in-Err c =
    let a = c.args in
    rw c.blame.ensures (refused-sheet a.press a.book.now (told_split (Ok a.split.now)) a.masks.now a.sheet.now a.cells.now a.work.now c.in-Err.fault c.in-Err.ensures)
