-- 21 is answered where there is no such press, and a refused book with its fault; else the sheet is asked for, and 0 is answered with 15, 11 with the reason, and every other answer stays.
use mathlib.Core.Path.{◌≡◌, refl}
use native.Mathlib.Omega.{arith}
use lib.ListN.{replicate}
use Rattle.std.specs.Prelude.{Ok}
use Rattle.std.proofs.Common.{rules}
use Rattle.std.proofs.lemmas.Result.{err_from_is_err_and}
use Rattle.names.specs.Bytes.{Bytes}
use Rattle.names.specs.Fault.{told_fault}
use Rattle.names.proofs.Refusing.{number-some}
use Rattle.books.specs.Answer.{blaming}
use Rattle.books.specs.Book.{book_of}
use Rattle.books.specs.Press.{IsPress}
use Rattle.books.specs.Size.{room}
use Rattle.pieces.specs.Asking.{kept_with, split_book, Asks, SplitFrom}
use Rattle.pieces.specs.Masks.{all_masks}
use Rattle.pieces.specs.Split.{told_split}
use Rattle.pieces.proofs.AskingSheets.{kept-fault, kept_from, book-asks}
use Rattle.pieces.proofs.MapErr.{value-same, error-made}
use Rattle.reasons.proofs.Asked.{told-no-press, told-faulty, told_in, told-refused, sizes-asked, room-asked, told-reason}
use Rattle.reasons.proofs.calls.explain.Goals as goal
use Rattle.reasons.proofs.calls.explain.Goals.{After-ask_sheet-asked, After-split_book, In_ok-split}

book-bytes : (c : After-split_book) → Bytes c.args.book.now
book-bytes c i = (c.type_inv.book i).fits

there : (c : After-split_book) → IsPress c.args.press
there c = omega (arith, c.if-press-ge-PRESSES.false)

kept : (c : In_ok-split) → kept_with (told_split (Ok c.in_ok-split.split)) c.split_book.new.masks ≡ split_book c.args.book.now (replicate all_masks 0)
kept c = rw (value-same _ c.split_book.result c.map_err.ensures.cases c.in_ok-split.was) at c.split_book.ensures

from : (c : In_ok-split) → SplitFrom c.args.book.now (told_split (Ok c.in_ok-split.split)) c.split_book.new.masks
from c = kept_from _ _ (kept c) refl refl

fine : (c : In_ok-split) → (book_of c.args.book.now).fault.number ≡ 0
fine c = (from c).accepted

asks : (c : After-ask_sheet-asked) → let s = c.args in
    Asks s.press s.book.now s.sheet.now (replicate room 0) s.work.now c.ask_sheet-asked.result c.ask_sheet-asked.new.cells c.ask_sheet-asked.new.work
asks c =
    let is : kept_with (told_split (Ok c.in_ok-split.split)) c.split_book.new.masks ≡ split_book c.args.book.now (replicate all_masks 0) =
    rw (value-same _ c.split_book.result c.map_err.ensures.cases c.in_ok-split.was) at c.split_book.ensures in
    book-asks _ _ _ (λ i. (c.type_inv.book i).fits) (λ i. (c.type_inv.sheet i).fits) _ _ (kept_from _ _ is refl refl) _ _ _ _ _ c.ask_sheet-asked.ensures

pub returns-then-press-ge-PRESSES : goal.returns-then-press-ge-PRESSES
returns-then-press-ge-PRESSES c = told-no-press _ _ _ _ _ (λ h. omega (arith, c.if-press-ge-PRESSES.true)) c.answer.ensures

pub returns-in_err-split : goal.returns-in_err-split
returns-in_err-split c =
    let p = err_from_is_err_and c.from_residual.result c.from_residual.ensures.1 in
    let (fault, is, made) = error-made _ c.split_book.result c.map_err.ensures.cases c.in_err-split.was in
    let told : c.in_err-split.field-0.0 ≡ blaming 1 (told_fault fault) = search rules in
    rw (p.1, p.2)
    (told-faulty _ _ _ _ _ (there (goal.at.returns-in_err-split c).After-split_book) _ (kept-fault _ _ (rw is at c.split_book.ensures)) (λ z. omega (arith, number-some fault.refusal)) told)

pub returns-then-asked-number : goal.returns-then-asked-number
returns-then-asked-number c =
    told_in _ _ _ _ _ _ _ (asks (goal.at.returns-then-asked-number c).After-ask_sheet-asked) (there (goal.at.returns-then-asked-number c).After-split_book) (fine (goal.at.returns-then-asked-number c).In_ok-split)
    (omega (arith, c.if-asked-number.true, c.number.ensures)) c.answer-then-asked-number.ensures

pub returns-then-asked-number-2 : goal.returns-then-asked-number-2
returns-then-asked-number-2 c =
    told-refused _ _ _ _ _ _ _ (asks (goal.at.returns-then-asked-number-2 c).After-ask_sheet-asked) (there (goal.at.returns-then-asked-number-2 c).After-split_book) (fine (goal.at.returns-then-asked-number-2 c).In_ok-split)
    (λ z. omega (arith, c.if-asked-number.false, c.number.ensures)) (λ z. omega (arith, c.if-asked-number-2.true, c.number-2.ensures)) refl

pub reason-requires : goal.reason-requires
reason-requires c =
    let eleven : c.ask_sheet-asked.result.answer.number ≡ 11 = omega (arith, c.if-asked-number-2.false, c.number-2.ensures) in
    record {
      within = sizes-asked _ _ _ _ _ _ (asks (goal.at.reason-requires c).After-ask_sheet-asked) (there (goal.at.reason-requires c).After-split_book) (fine (goal.at.reason-requires c).In_ok-split) eleven;
      held = room-asked _ _ _ _ _ _ (asks (goal.at.reason-requires c).After-ask_sheet-asked) (there (goal.at.reason-requires c).After-split_book) (fine (goal.at.reason-requires c).In_ok-split) eleven;
    }

pub returns : goal.returns
returns c =
    told-reason _ _ _ _ _ _ (asks (goal.at.returns c).After-ask_sheet-asked) (there (goal.at.returns c).After-split_book) (fine (goal.at.returns c).In_ok-split)
    (omega (arith, c.if-asked-number-2.false, c.number-2.ensures)) (book-bytes (goal.at.returns c).After-split_book) _ _ (from (goal.at.returns c).In_ok-split) _ c.reason.ensures
