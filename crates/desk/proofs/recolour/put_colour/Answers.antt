-- 21 is answered where there is no such press, a refused book or sheet with its fault, what lacks with its number, and else what the masks make anew is the outcome.
use mathlib.Core.Path.{◌≡◌, refl, sym, ap, ◌∙◌}
use native.Mathlib.Omega.{arith}
use lib.ListN.{length, replicate}
use Rattle.std.specs.Prelude.{Ok, Err}
use Rattle.std.proofs.Common.{rules}
use Rattle.std.proofs.lemmas.Result.{err_from_is_err_and}
use Rattle.names.specs.Bytes.{Bytes}
use Rattle.names.specs.Fault.{Fault, told_fault}
use Rattle.names.proofs.Refusing.{number-some}
use Rattle.books.specs.Answer.{plain, blaming}
use Rattle.books.specs.Book.{book_of}
use Rattle.books.specs.Press.{IsPress}
use Rattle.books.specs.Reply.{number_of}
use Rattle.books.specs.Sheet.{sheet_of, sheet_figures}
use Rattle.books.specs.Told.{told_figures}
use Rattle.books.proofs.LentEnds.{no_press, in_book}
use Rattle.pieces.specs.Asking.{kept_with, split_book}
use Rattle.pieces.specs.Masks.{all_masks}
use Rattle.pieces.specs.Split.{told_split}
use Rattle.pieces.proofs.AskingSheets.{kept-fault}
use Rattle.desk.specs.inner.ForCell.{lacking_for}
use Rattle.pieces.proofs.MapErr.{value-same, error-made}
use Rattle.desk.proofs.Recolouring.{refused-first, read-blamed, read-lacks, read-within}
use Rattle.desk.proofs.Recasting.{Known, cell-due, painters-due, recast-as}
use Rattle.desk.proofs.recolour.put_colour.Goals as goal
use Rattle.desk.proofs.recolour.put_colour.Goals.{After-split_book, In_ok-split, In_ok-figures, In_default}

-- There is such a press, ...
on_press : (c : After-split_book) → IsPress c.args.press
on_press c = omega (arith, c.if-press-ge-PRESSES.false)

-- ... the book was read with no fault, ...
kept : (c : In_ok-split) → kept_with (told_split (Ok c.in_ok-split.split)) c.split_book.new.masks ≡ split_book c.args.book.now (replicate all_masks 0)
kept c = rw (value-same _ c.split_book.result c.map_err.ensures.cases c.in_ok-split.was) at c.split_book.ensures

book_fine : (c : In_ok-split) → (book_of c.args.book.now).fault.number ≡ 0
book_fine c = ap (λ (x : Fault). x.number) (sym (kept-fault c.args.book.now _ (kept c)))

-- ... and the sheet too.
read : (c : In_ok-figures) → told_figures (Ok c.in_ok-figures.figures) ≡ sheet_figures (sheet_of c.args.press c.args.sheet.now)
read c = rw (value-same _ c.sheet_figures.result c.map_err-2.ensures.cases c.in_ok-figures.was) at c.sheet_figures.ensures

pub returns-then-press-ge-PRESSES : goal.returns-then-press-ge-PRESSES
returns-then-press-ge-PRESSES c =
    let a = c.args in
    let k = a.cell in
    rw (refused-first a.press a.book.now a.sheet.now a.work.now k.row k.column k.colour (no_press (λ h. omega (arith, c.if-press-ge-PRESSES.true))))
    (record { answers = c.answer.ensures; leaves_sheet = refl; leaves_work = refl })

pub returns-in_err-split : goal.returns-in_err-split
returns-in_err-split c =
    let a = c.args in
    let k = a.cell in
    let p = err_from_is_err_and c.from_residual.result c.from_residual.ensures.1 in
    let (fault, is, made) = error-made _ c.split_book.result c.map_err.ensures.cases c.in_err-split.was in
    let told : c.in_err-split.field-0.0 ≡ blaming 1 (told_fault fault) = search rules in
    let same = kept-fault a.book.now _ (rw is at c.split_book.ensures) in
    let bad : (book_of a.book.now).fault.number ≡ 0 → ⊥ = λ z. omega (arith, number-some fault.refusal, ap (λ (x : Fault). x.number) same) in
    rw (p.1, p.2, refused-first a.press a.book.now a.sheet.now a.work.now k.row k.column k.colour (in_book (on_press (goal.at.returns-in_err-split c).After-split_book) bad))
    (record { answers = told ∙ ap (blaming 1) same; leaves_sheet = refl; leaves_work = refl })

pub returns-in_err-figures : goal.returns-in_err-figures
returns-in_err-figures c =
    let a = c.args in
    let k = a.cell in
    let p = err_from_is_err_and c.from_residual-in_err-figures.result c.from_residual-in_err-figures.ensures.1 in
    let (fault, is, made) = error-made _ c.sheet_figures.result c.map_err-2.ensures.cases c.in_err-figures.was in
    let told : c.in_err-figures.field-0.0 ≡ blaming 2 (told_fault fault) = search rules in
    let figures : told_figures (Err fault) ≡ sheet_figures (sheet_of a.press a.sheet.now) = rw is at c.sheet_figures.ensures in
    rw (
      p.1,
      p.2,
      read-blamed a.press a.book.now a.sheet.now a.work.now k.row k.column k.colour figures (book_fine (goal.at.returns-in_err-figures c).In_ok-split)
          (on_press (goal.at.returns-in_err-figures c).After-split_book) (λ z. omega (arith, number-some fault.refusal)),
    )
    (record { answers = told; leaves_sheet = refl; leaves_work = refl })

pub allowed-requires : goal.allowed-requires
allowed-requires c =
    let a = c.args in
    read-within a.press a.sheet.now (read (goal.at.allowed-requires c).In_ok-figures) refl

pub returns-in-Err : goal.returns-in-Err
returns-in-Err c =
    let a = c.args in
    let k = a.cell in
    let z = c.in_ok-figures.figures in
    let tells : number_of c.in-Err.lack ≡ lacking_for z.size z.colours k.row k.column k.colour (length a.work.now) = c.in-Err.ensures.lacks in
    rw (read-lacks a.press a.book.now a.sheet.now a.work.now k.row k.column k.colour (read (goal.at.returns-in-Err c).In_ok-figures) (book_fine (goal.at.returns-in-Err c).In_ok-split) refl
    (λ none. omega (arith, tells, none, c.in-Err.ensures.some)))
    (record { answers = c.answer-in-Err.ensures ∙ ap plain tells; leaves_sheet = refl; leaves_work = refl })

-- Where nothing lacks, what is known for the calls that are left.
known : (c : In_default) → let a = c.args in let k = a.cell in
    Known a.press a.book.now a.sheet.now a.work.now k.row k.column k.colour (told_split (Ok c.in_ok-split.split)) c.split_book.new.masks (told_figures (Ok c.in_ok-figures.figures))
known c =
    let bytes_book : Bytes c.args.book.now = λ i. (c.type_inv.book i).fits in
    let bytes_sheet : Bytes c.args.sheet.now = λ i. (c.slice_known-1.given i).fits in
    let is : kept_with (told_split (Ok c.in_ok-split.split)) c.split_book.new.masks ≡ split_book c.args.book.now (replicate all_masks 0) =
    rw (value-same _ c.split_book.result c.map_err.ensures.cases c.in_ok-split.was) at c.split_book.ensures in
    let figures : told_figures (Ok c.in_ok-figures.figures) ≡ sheet_figures (sheet_of c.args.press c.args.sheet.now) =
    rw (value-same _ c.sheet_figures.result c.map_err-2.ensures.cases c.in_ok-figures.was) at c.sheet_figures.ensures in
    record {
      bytes_book = bytes_book;
      bytes_sheet = bytes_sheet;
      kept = is;
      book_ok = refl;
      is = figures;
      sheet_ok = refl;
      none = sym (rw c.in_default.is at c.allowed.ensures.lacks);
    }

pub put-at-requires : goal.put-at-requires
put-at-requires c = cell-due (known (goal.at.put-at-requires c).In_default)

pub painters-paint-requires : goal.painters-paint-requires
painters-paint-requires c = painters-due (known (goal.at.painters-paint-requires c).In_default) c.put-at.ensures.1 c.put-at.ensures.0

pub returns : goal.returns
returns c =
    recast-as (known (goal.at.returns c).In_default) c.put-at.ensures.1 c.put-at.ensures.0 c.painters-paint.ensures c.refill.auto.work c.refill.ensures
    (ap plain c.whole_sheet.ensures)
