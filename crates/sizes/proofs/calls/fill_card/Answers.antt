-- 21 is answered where there is no such press, a refused book with its fault, a slice that is too short with 13, and else the card is written by the masks.
use mathlib.Core.Path.{◌≡◌, refl}
use native.Mathlib.Omega.{arith}
use lib.ListN.{replicate}
use Rattle.std.specs.Prelude.{Ok}
use Rattle.std.proofs.lemmas.Result.{err_from_is_err_and}
use Rattle.std.proofs.Common.{rules}
use Rattle.names.specs.Bytes.{Bytes}
use Rattle.names.specs.Fault.{told_fault}
use Rattle.books.specs.Answer.{blaming}
use Rattle.names.proofs.Refusing.{number-some}
use Rattle.books.specs.Press.{IsPress}
use Rattle.books.proofs.Presses.{greatest-few, greatest-some}
use Rattle.books.proofs.Area.{room_enough}
use Rattle.pieces.specs.Asking.{kept_with, split_book}
use Rattle.pieces.specs.Masks.{all_masks}
use Rattle.pieces.specs.Split.{told_split}
use Rattle.sizes.proofs.Answering.{press-first, start-low, refuses, lacks, writes}
use Rattle.pieces.proofs.MapErr.{value-same, error-made}
use Rattle.sizes.proofs.calls.fill_card.Goals as goal
use Rattle.sizes.proofs.calls.fill_card.Goals.{After-split_book, In_ok-split}

book-bytes : (c : After-split_book) → Bytes c.args.book.now
book-bytes c i = (c.type_inv.book i).fits

there : (c : After-split_book) → IsPress c.args.press
there c = omega (arith, c.if-press-ge-PRESSES.false)

kept : (c : In_ok-split) → kept_with (told_split (Ok c.in_ok-split.split)) c.split_book.new.masks ≡ split_book c.args.book.now (replicate all_masks 0)
kept c = rw (value-same _ c.split_book.result c.map_err.ensures.cases c.in_ok-split.was) at c.split_book.ensures

pub returns-then-press-ge-PRESSES : goal.returns-then-press-ge-PRESSES
returns-then-press-ge-PRESSES c =
    let a = c.args in
    rw (press-first a.press a.book.now a.card.now (λ h. omega (arith, c.if-press-ge-PRESSES.true)))
    (record { answers = c.answer.ensures; counts = refl; leaves = refl })

pub returns-in_err-split : goal.returns-in_err-split
returns-in_err-split c =
    let p = err_from_is_err_and c.from_residual.result c.from_residual.ensures.1 in
    let (fault, is, made) = error-made _ c.split_book.result c.map_err.ensures.cases c.in_err-split.was in
    let told : c.in_err-split.field-0.0 ≡ blaming 1 (told_fault fault) = search rules in
    rw (p.1, p.2)
    (refuses _ _ (rw is at c.split_book.ensures) _ _ _ (there (goal.at.returns-in_err-split c).After-split_book) (λ z. omega (arith, number-some fault.refusal)) told)

pub returns-then-card-most : goal.returns-then-card-most
returns-then-card-most c =
    lacks _ _ (kept (goal.at.returns-then-card-most c).In_ok-split) _ _ _ c.greatest-most.ensures (there (goal.at.returns-then-card-most c).After-split_book) refl c.if-card-most.true c.answer-then-card-most.ensures

pub write_card-count-requires : goal.write_card-count-requires
write_card-count-requires c =
    let press = c.args.press in
    let most = c.greatest-most.ensures in
    record {
      some = rw most ((greatest-some press).0 (there (goal.at.write_card-count-requires c).After-split_book));
      few = omega (arith, most, greatest-few press);
      entries_all = rw most (room_enough press);
      start_fits = start-low _ _ (kept (goal.at.write_card-count-requires c).In_ok-split) refl;
      room_enough = c.if-card-most.false;
    }

pub returns : goal.returns
returns c =
    writes _ _ (kept (goal.at.returns c).In_ok-split) _ _ _ c.greatest-most.ensures (there (goal.at.returns c).After-split_book) refl (book-bytes (goal.at.returns c).After-split_book) refl c.if-card-most.false refl _ _ c.write_card-count.ensures
