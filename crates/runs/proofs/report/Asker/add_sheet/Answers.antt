-- What was asked can be added, and adding it makes the figures those of one sheet more.
use mathlib.Core.Path.{refl}
use Rattle.std.specs.Prelude.{Ok}
use Rattle.pieces.specs.Asking.{Asks, SplitFrom}
use Rattle.pieces.specs.Split.{told_split}
use Rattle.pieces.proofs.AskingSheets.{kept_from, book-asks}
use Rattle.runs.proofs.AskedSheets.{addable, asked-adds}
use Rattle.runs.proofs.report.Asker.add_sheet.Goals as goal
use Rattle.runs.proofs.report.Asker.add_sheet.Goals.{After-ask_sheet-r}

from_book : (c : After-ask_sheet-r) → let a = c.args.self.now in SplitFrom a.book.now (told_split (Ok a.split.now)) a.masks.now
from_book c = kept_from _ _ c.args.self.now.kept refl refl

asks : (c : After-ask_sheet-r) → let a = c.args in
    Asks a.self.now.press a.self.now.book.now a.sheet.now a.cells.now a.work.now c.ask_sheet-r.result c.ask_sheet-r.new.cells c.ask_sheet-r.new.work
asks c = book-asks _ _ _ c.args.self.now.bytes (λ i. (c.type_inv.sheet i).fits) _ _ (from_book c) _ _ _ _ _ c.ask_sheet-r.ensures

pub add_asked-requires : goal.add_asked-requires
add_asked-requires c =
    let here = (goal.at.add_asked-requires c).After-ask_sheet-r in
    addable _ c.args.self.now.on_press _ _ _ (from_book here).accepted c.requires.work_long c.args.self.now.bytes _ _ _ _ (asks here) _ c.requires.spare

pub returns : goal.returns
returns c =
    let here = (goal.at.returns c).After-ask_sheet-r in
    rw c.add_asked.ensures (asked-adds _ c.args.self.now.on_press _ _ _ (from_book here).accepted c.requires.work_long c.args.self.now.bytes _ _ _ _ (asks here) _)
