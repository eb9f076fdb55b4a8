-- 21 where there is no such press, with no ticket.
use mathlib.Core.Path.{sym, ◌∙◌}
use native.Mathlib.Omega.{arith}
use Rattle.books.proofs.Packing.{no-press-packed}
use Rattle.books.proofs.calls.dv_read_sheet.Goals as goal

pub returns-then-press-ge-PRESSES : goal.returns-then-press-ge-PRESSES
returns-then-press-ge-PRESSES c =
    let a = c.args in
    rw c.answer.ensures at c.pack.ensures ∙ sym (no-press-packed a.press a.sheet.now (λ h. omega (arith, c.if-press-ge-PRESSES.true)))
