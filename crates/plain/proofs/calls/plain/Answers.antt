-- That there is no such press is answered first, then the fault of a book or of a sheet, then that a sheet has too many cells, and else what the search of the whole sheet finds.
use Rattle.std.proofs.Common.{◌≡◌, Ok, Bool, true, false, sym, ap, ◌∙◌, arith}
use native.Mathlib.Nat.{mul-le-mul}
use lib.ListN.{replicate}
use lib.Seq.{length-take-le}
use Rattle.names.specs.Bytes.{Bytes}
use Rattle.names.specs.Pick.{pick}
use Rattle.books.specs.Answer.{plain}
use Rattle.books.specs.Book.{book_of}
use Rattle.books.specs.Numbering.{Numbers}
use Rattle.books.specs.Size.{room, Within}
use Rattle.books.specs.Told.{told_book, told_figures}
use Rattle.books.specs.declared.answer.Answer.{Answer}
use Rattle.books.proofs.LentEnds.{no_press}
use Rattle.pieces.specs.Most.{most}
use Rattle.pieces.proofs.Cutting.{whole-inside}
use Rattle.plain.specs.Outcome.{plain_answer}
use Rattle.plain.proofs.Answering.{refused-first, few_rules, byte_start, book-blamed, sheet-blamed, sizes, cells_all, too_many, told}
use Rattle.plain.proofs.calls.plain.Goals as goal
use Rattle.plain.proofs.calls.plain.Goals.{In-Ok-number_sheet, After-derives, then-derives, else-derives}

-- the book and the sheet that were read
book_read : (c : In-Ok-number_sheet) → told_book (Ok c.in-Ok.family) ≡ book_of c.args.book.now
book_read c = rw c.in-Ok.is at c.read_book.ensures

sheet_read : (c : In-Ok-number_sheet) → Numbers c.args.press c.args.book.now c.in-Ok.family.colours c.args.sheet.now (replicate room 0) (told_figures (Ok c.in-Ok-number_sheet.figures)) c.number_sheet.new.cells
sheet_read c = rw c.in-Ok-number_sheet.is at c.number_sheet.ensures

few : (c : In-Ok-number_sheet) → Within most c.in-Ok-number_sheet.figures.size.rows c.in-Ok-number_sheet.figures.size.cols
few c = sizes c.args.press c.args.book.now c.args.sheet.now (book_read c) (sheet_read c)

pub returns-then-press-ge-PRESSES : goal.returns-then-press-ge-PRESSES
returns-then-press-ge-PRESSES c =
    let a = c.args in
    c.answer.ensures ∙ sym (refused-first a.press a.book.now a.sheet.now (no_press (λ h. omega (arith, c.if-press-ge-PRESSES.true))))

pub returns-in-Err : goal.returns-in-Err
returns-in-Err c =
    let a = c.args in
    c.blame.ensures ∙ sym (book-blamed a.press a.book.now a.sheet.now (omega (arith, c.if-press-ge-PRESSES.false)) _ (rw c.in-Err.is at c.read_book.ensures))

pub returns-in-Err-number_sheet : goal.returns-in-Err-number_sheet
returns-in-Err-number_sheet c =
    let a = c.args in
    c.blame-in-Err-number_sheet.ensures
    ∙ sym (sheet-blamed a.press a.book.now a.sheet.now (rw c.in-Ok.is at c.read_book.ensures) (omega (arith, c.if-press-ge-PRESSES.false)) _
    (rw c.in-Err-number_sheet.is at c.number_sheet.ensures))

pub overflow_mul-size : goal.overflow_mul-size
overflow_mul-size c =
    let few-here = few (goal.at.overflow_mul-size c).In-Ok-number_sheet in
    record { fits = omega (arith, mul-le-mul few-here.rows_few few-here.cols_few) }

pub returns-then-size-gt-MOST_CELLS : goal.returns-then-size-gt-MOST_CELLS
returns-then-size-gt-MOST_CELLS c =
    let a = c.args in
    let here = (goal.at.returns-then-size-gt-MOST_CELLS c).In-Ok-number_sheet in
    c.answer-then-size-gt-MOST_CELLS.ensures
    ∙ sym (too_many a.press a.book.now a.sheet.now (book_read here) (sheet_read here) (omega (arith, c.if-size-gt-MOST_CELLS.true)))

pub overflow_cast-family : goal.overflow_cast-family
overflow_cast-family c =
    let a = c.args in
    record { fits = byte_start a.press a.book.now a.sheet.now (rw c.in-Ok.is at c.read_book.ensures) }

pub invariant_of-sheet : goal.invariant_of-sheet
invariant_of-sheet c =
    let a = c.args in
    let here = (goal.at.invariant_of-sheet c).In-Ok-number_sheet in
    let few-here = few here in
    let f = c.in-Ok.family in
    let count = few_rules a.press a.book.now a.sheet.now (book_read here) in
    record {
      rules_few = rw c.rules.ensures (omega (arith, count, length-take-le f.count f.rules (omega (arith, count))));
      rows_few = few-here.rows_few;
      cols_few = few-here.cols_few;
      cells_all = cells_all a.press a.book.now a.sheet.now (book_read here) (sheet_read here);
    }

pub invariant_of-whole : goal.invariant_of-whole
invariant_of-whole c =
    let few-here = few (goal.at.invariant_of-whole c).In-Ok-number_sheet in
    record { inside = whole-inside _ _ few-here.rows_some few-here.cols_some }

-- After the search: what was found is what the answer tells.
answered : (c : After-derives) (v : Bool) → c.derives.result ≡ v → let a = c.args in
    plain_answer a.press a.book.now a.sheet.now ≡ pick v (plain 0) (plain 11)
answered c v is =
    let a = c.args in
    let bytes_book : Bytes a.book.now = λ i. (c.type_inv.book i).fits in
    let bytes_sheet : Bytes a.sheet.now = λ i. (c.type_inv.sheet i).fits in
    told a.press a.book.now a.sheet.now (rw c.in-Ok.is at c.read_book.ensures) (rw c.in-Ok-number_sheet.is at c.number_sheet.ensures) bytes_book bytes_sheet
    (omega (arith, c.if-size-gt-MOST_CELLS.false))
    ∙ ap (λ (t : Bool). pick {A = Answer} t (plain 0) (plain 11)) (sym (rw c.rules.ensures at c.derives.ensures) ∙ is)

pub returns : goal.returns
returns c =
    let here = (goal.at.returns c).After-derives in
    elim c.if-derives.branch [
      | then-derives w ↦ rw w.reply-is at c.answer-2.ensures ∙ sym (answered here true w.if-derives.true)
      | else-derives w ↦ rw w.reply-is at c.answer-2.ensures ∙ sym (answered here false w.if-derives.false)
    ]
