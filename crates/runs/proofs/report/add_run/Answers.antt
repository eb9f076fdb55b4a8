-- Where something is refused, the figures stay cleared; else the sheets are added, and the work slice is cleared.
use Prim.Native.Nat.{◌≤◌}
use mathlib.Core.Path.{◌≡◌, refl, sym, ap, ◌∙◌}
use mathlib.Core.List.{◌++◌}
use native.Mathlib.Omega.{arith}
use lib.ListN.{length, drop, replicate}
use Rattle.std.specs.Prelude.{Ok}
use Rattle.std.proofs.Common.{rules}
use Rattle.std.proofs.lemmas.Result.{err_from_is_err_and}
use Rattle.names.specs.Fault.{Fault, told_fault}
use Rattle.names.proofs.Refusing.{number-some}
use Rattle.books.specs.Answer.{blaming}
use Rattle.books.specs.Book.{book_of}
use Rattle.books.specs.Press.{IsPress}
use Rattle.books.specs.declared.answer.Answer.{Answer}
use Rattle.books.proofs.LentEnds.{blamed_is}
use Rattle.pieces.specs.Asking.{kept_with, split_book}
use Rattle.pieces.specs.Masks.{all_masks}
use Rattle.pieces.specs.Split.{told_split}
use Rattle.pieces.proofs.AskingSheets.{kept-fault}
use Rattle.runs.specs.Figures.{work_room, figures_long}
use Rattle.runs.specs.Run.{framing}
use Rattle.pieces.proofs.MapErr.{value-same, error-made}
use Rattle.runs.proofs.ReportingRuns.{press-first, book-second, run-third, work-fourth, nothing-refused, front-cleared, cleared, reports-refusal, reports-run}
use Rattle.runs.proofs.report.add_run.Goals as goal
use Rattle.runs.proofs.report.add_run.Goals.{After-fill, After-split_book, In_ok-split, In_ok-map_err, Else-work-room}

start_is : (c : After-fill) → let f = c.args.figures.now in
    c.fill.new.self ++ drop figures_long f ≡ replicate figures_long 0 ++ drop figures_long f
start_is c = front-cleared figures_long c.args.figures.now _ c.requires (c.fill.ensures.after (λ y e. e))

-- There is such a press, ...
on_press : (c : After-split_book) → IsPress c.args.press
on_press c = omega (arith, c.if-press-ge-PRESSES.false)

-- ... the book was read with no fault, ...
kept : (c : In_ok-split) → kept_with (told_split (Ok c.in_ok-split.split)) c.split_book.new.masks ≡ split_book c.args.book.now (replicate all_masks 0)
kept c = rw (value-same _ c.split_book.result c.map_err.ensures.cases c.in_ok-split.was) at c.split_book.ensures

book_fine : (c : In_ok-split) → (book_of c.args.book.now).fault.number ≡ 0
book_fine c = ap (λ (x : Fault). x.number) (sym (kept-fault c.args.book.now _ (kept c)))

-- ... the run's framing has no fault, ...
run_fine : (c : In_ok-map_err) → (framing c.args.run.now).number ≡ 0
run_fine c = ap (λ (x : Fault). x.number) (sym (rw (value-same _ c.framing.result c.map_err-2.ensures.cases c.in_ok-map_err.was) at c.framing.ensures))

-- ... and the work slice has room.
room : (c : Else-work-room) → work_room c.args.press ≤ length c.args.work.now
room c = omega (arith, c.work_room-room.ensures, c.if-work-room.false)

pub returns-then-press-ge-PRESSES : goal.returns-then-press-ge-PRESSES
returns-then-press-ge-PRESSES c =
    let e = c.answer.ensures in
    let none : IsPress c.args.press → ⊥ = λ h. omega (arith, c.if-press-ge-PRESSES.true) in
    reports-refusal _ _ _ _ _ _ (start_is (goal.at.returns-then-press-ge-PRESSES c).After-fill) _ _ refl
    (e ∙ sym (press-first c.args.press (book_of c.args.book.now).fault c.args.run.now (length c.args.work.now) none)) (λ z. omega (arith, ap (λ (a : Answer). a.number) e))

pub returns-in_err-split : goal.returns-in_err-split
returns-in_err-split c =
    let p = err_from_is_err_and c.from_residual.result c.from_residual.ensures.1 in
    let (fault, is, made) = error-made _ c.split_book.result c.map_err.ensures.cases c.in_err-split.was in
    let told : c.in_err-split.field-0.0 ≡ blaming 1 (told_fault fault) = search rules in
    let bad : (told_fault fault).number ≡ 0 → ⊥ = λ z. omega (arith, number-some fault.refusal) in
    rw (p.1, p.2)
    (reports-refusal _ _ _ _ _ _ (start_is (goal.at.returns-in_err-split c).After-fill) _ (told_fault fault) (kept-fault _ _ (rw is at c.split_book.ensures))
    (told ∙ sym (book-second _ _ _ _ (on_press (goal.at.returns-in_err-split c).After-split_book) bad))
    (λ z. bad (sym (ap (λ (a : Answer). a.number) (told ∙ blamed_is 1 (told_fault fault) bad)) ∙ z)))

pub returns-in_err-map_err : goal.returns-in_err-map_err
returns-in_err-map_err c =
    let p = err_from_is_err_and c.from_residual-in_err-map_err.result c.from_residual-in_err-map_err.ensures.1 in
    let (fault, is, made) = error-made _ c.framing.result c.map_err-2.ensures.cases c.in_err-map_err.was in
    let told : c.in_err-map_err.field-0.0 ≡ blaming 2 (told_fault fault) = search rules in
    let e : told_fault fault ≡ framing c.args.run.now = rw is at c.framing.ensures in
    let some : (told_fault fault).number ≡ 0 → ⊥ = λ z. omega (arith, number-some fault.refusal) in
    let bad : (framing c.args.run.now).number ≡ 0 → ⊥ = λ z. some (ap (λ (x : Fault). x.number) e ∙ z) in
    rw (p.1, p.2)
    (reports-refusal _ _ _ _ _ _ (start_is (goal.at.returns-in_err-map_err c).After-fill) _ _ refl
    (told ∙ ap (blaming 2) e ∙ sym (run-third _ _ _ _ (on_press (goal.at.returns-in_err-map_err c).After-split_book) (book_fine (goal.at.returns-in_err-map_err c).In_ok-split) bad))
    (λ z. some (sym (ap (λ (a : Answer). a.number) (told ∙ blamed_is 2 (told_fault fault) some)) ∙ z)))

pub returns-then-work-room : goal.returns-then-work-room
returns-then-work-room c =
    let e = c.answer-then-work-room.ensures in
    reports-refusal _ _ _ _ _ _ (start_is (goal.at.returns-then-work-room c).After-fill) _ _ refl
    (e ∙ sym (work-fourth _ _ _ _ (on_press (goal.at.returns-then-work-room c).After-split_book) (book_fine (goal.at.returns-then-work-room c).In_ok-split) (run_fine (goal.at.returns-then-work-room c).In_ok-map_err)
    (omega (arith, c.work_room-room.ensures, c.if-work-room.true))))
    (λ z. omega (arith, ap (λ (a : Answer). a.number) e))

pub add_sheets-requires : goal.add_sheets-requires
add_sheets-requires c =
    record {
      run_fine = run_fine (goal.at.add_sheets-requires c).In_ok-map_err;
      work_long = room (goal.at.add_sheets-requires c).Else-work-room;
      none = cleared c.args.figures.now _ (start_is (goal.at.add_sheets-requires c).After-fill);
    }

pub returns : goal.returns
returns c =
    let enough = room (goal.at.returns c).Else-work-room in
    let long : c.work_room-room.result ≤ length c.add_sheets.new.work = omega (arith, c.work_room-room.ensures, c.add_sheets.auto.work, enough) in
    let allowed = nothing-refused _ _ _ _ (on_press (goal.at.returns c).After-split_book) (book_fine (goal.at.returns c).In_ok-split) (run_fine (goal.at.returns c).In_ok-map_err) enough in
    reports-run _ _ _ _ _ _ (start_is (goal.at.returns c).After-fill) _ _ refl (sym allowed) refl _ _ _
    c.add_sheets.ensures c.work_room-room.ensures (front-cleared _ c.add_sheets.new.work _ long (c.fill-2.ensures.after (λ y e. e)))
