-- A press, a book or a sheet that is refused has its answer whatever the nodes are; and what was read answers for any nodes.
use Rattle.std.proofs.Common.{refl, arith}
use Rattle.books.proofs.LentEnds.{no_press}
use Rattle.trees.proofs.CodeTells.{refused, few_rules, few_start, book-refused, sheet-refused, sizes, tells}
use Rattle.trees.proofs.held.Held.read.Goals as goal

pub returns-then-press-ge-PRESSES-clause-refused : goal.returns-then-press-ge-PRESSES-clause-refused
returns-then-press-ge-PRESSES-clause-refused c = rw c.answer.ensures (refused (no_press (λ h. omega (arith, c.if-press-ge-PRESSES.true))))

pub returns-in-Err-clause-refused : goal.returns-in-Err-clause-refused
returns-in-Err-clause-refused c =
    let a = c.args in
    rw c.blame.ensures
    (book-refused a.press a.book.now a.sheet.now (omega (arith, c.if-press-ge-PRESSES.false)) _ (rw c.in-Err.is at c.read_book.ensures))

pub returns-in-Err-number_sheet-clause-refused : goal.returns-in-Err-number_sheet-clause-refused
returns-in-Err-number_sheet-clause-refused c =
    let a = c.args in
    rw c.blame-in-Err-number_sheet.ensures
    (sheet-refused a.book.now (rw c.in-Ok.is at c.read_book.ensures) a.press a.sheet.now (omega (arith, c.if-press-ge-PRESSES.false)) _
    (rw c.in-Err-number_sheet.is at c.number_sheet.ensures))

pub invariant_of-result : goal.invariant_of-result
invariant_of-result c =
    let a = c.args in
    let read = rw c.in-Ok.is at c.read_book.ensures in
    record {
      rules_few = few_rules a.book.now read;
      start_few = few_start a.book.now read;
      sizes = sizes a.book.now read a.press a.sheet.now (rw c.in-Ok-number_sheet.is at c.number_sheet.ensures);
    }

pub returns-clause-tells : goal.returns-clause-tells
returns-clause-tells c =
    let a = c.args in
    tells a.book.now (rw c.in-Ok.is at c.read_book.ensures) a.press a.sheet.now (rw c.in-Ok-number_sheet.is at c.number_sheet.ensures)
    (λ i. (c.type_inv.book i).fits) (λ i. (c.type_inv.sheet i).fits) _ refl refl refl
