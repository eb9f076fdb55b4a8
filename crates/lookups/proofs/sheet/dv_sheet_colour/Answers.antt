-- Place and length of the colour that was found are those of its name.
use mathlib.Core.Path.{ap}
use Rattle.books.specs.Sheet.{sheet_of}
use Rattle.books.specs.SheetRead.{SheetRead}
use Rattle.books.proofs.ReadingSheets.{sheet-places}
use Rattle.lookups.proofs.Showing.{place-told}
use Rattle.lookups.proofs.sheet.dv_sheet_colour.Goals as goal

pub place_of-requires : goal.place_of-requires
place_of-requires c = let a = c.args in rw (← c.in-Ok.ensures) at (sheet-places a.press a.sheet.now).few

pub returns-in-Ok : goal.returns-in-Ok
returns-in-Ok c =
    let a = c.args in
    let s = a.sheet.now in
    let read = ap (λ (r : SheetRead). r.sheet.colours) c.in-Ok.ensures in
    place-told s (sheet_of a.press s).sheet.colours a.number (sheet-places a.press s) c.place_of.result (rw read at c.place_of.ensures) c.map_or.result c.map_or.ensures
