-- A refused sheet leaves arrays that are cleared.
use mathlib.Core.Path.{sym, ◌∙◌}
use Rattle.books.proofs.SheetInParts.{cleared}
use Rattle.books.proofs.sheet.read_sheet_into.Goals as goal

pub returns-then-is_err : goal.returns-then-is_err
returns-then-is_err c = cleared _ _ _ _ (sym c.is_err.ensures.value ∙ c.if-is_err.true) c.fill_sheet-read.ensures.err
