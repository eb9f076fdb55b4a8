-- 21 is answered where there is no such press, a book or a sheet that is refused is answered with its fault, slices that are too short with that, and else what the table tells is the answer.
use mathlib.Core.Path.{◌≡◌, refl, sym, ap, ap₂, ◌∙◌}
use native.Mathlib.Nat.{le_trans, le_of_eq}
use native.Mathlib.Omega.{arith}
use lib.ListN.{replicate}
use Rattle.std.specs.Prelude.{Ok}
use Rattle.std.proofs.Common.{rules}
use Rattle.std.proofs.lemmas.Result.{err_from_is_err_and}
use Rattle.names.specs.Fault.{told_fault}
use Rattle.books.specs.Answer.{plain, blaming}
use Rattle.books.specs.Book.{book_of}
use Rattle.books.specs.Numbering.{Numbers}
use Rattle.books.specs.Press.{IsPress}
use Rattle.books.specs.Size.{room}
use Rattle.books.specs.Told.{told_book, told_figures}
use Rattle.books.specs.declared.answer.Answer.{Answer}
use Rattle.pieces.specs.Derivation.{telling}
use Rattle.pieces.specs.inner.ForTable.{Shows}
use Rattle.books.proofs.LentEnds.{no_press}
use Rattle.pieces.proofs.AskingSheets.{read-shows}
use Rattle.pieces.proofs.DerivationAnswers.{refused-first}
use Rattle.pieces.proofs.Deriving.{byte_start, book-blamed, rows-small, masks-fit, sheet-blamed, room-lacks, nodes-fit, derived-as}
use Rattle.pieces.proofs.Lacking.{nothing-lacks}
use Rattle.pieces.proofs.MapErr.{value-same, error-made}
use Rattle.pieces.proofs.derive.attempt.Goals as goal
use Rattle.pieces.proofs.derive.attempt.Goals.{After-read_book, In_ok-family, In_ok-s}

-- There is such a press, ...
on_press : (c : After-read_book) → IsPress c.args.press
on_press c = omega (arith, c.if-press-ge-PRESSES.false)

-- ... the book was read, ...
family-read : (c : In_ok-family) → told_book (Ok c.in_ok-family.family) ≡ book_of c.args.book.now
family-read c = rw (value-same _ c.read_book.result c.map_err.ensures.cases c.in_ok-family.was) at c.read_book.ensures

-- ... and the sheet.
sheet-read : (c : In_ok-s) → let a = c.args in
    Numbers a.press a.book.now c.in_ok-family.family.colours a.sheet.now (replicate room 0) (told_figures (Ok c.in_ok-s.s)) c.number_sheet.new.cells
sheet-read c = rw (value-same _ c.number_sheet.result c.map_err-2.ensures.cases c.in_ok-s.was) at c.number_sheet.ensures

sheet-shows : (c : In_ok-s) → Shows (told_figures (Ok c.in_ok-s.s)) c.number_sheet.new.cells
sheet-shows c = let a = c.args in read-shows a.press a.book.now _ a.sheet.now _ (sheet-read c) refl

-- where no table was written
untried : {a b : Answer} → a ≡ b → telling a 0 ≡ telling b 0
untried e = ap (λ (a : Answer). telling a 0) e

pub returns-then-press-ge-PRESSES : goal.returns-then-press-ge-PRESSES
returns-then-press-ge-PRESSES c =
    let a = c.args in
    rw (refused-first a.press a.book.now a.sheet.now a.work.now a.tree.now (no_press (λ h. omega (arith, c.if-press-ge-PRESSES.true))))
    (record { answers = untried c.answer.ensures; leaves_work = refl; leaves_tree = refl })

pub returns-in_err-family : goal.returns-in_err-family
returns-in_err-family c =
    let a = c.args in
    let e = err_from_is_err_and c.from_residual.result c.from_residual.ensures.1 in
    let (fault, is, made) = error-made _ c.read_book.result c.map_err.ensures.cases c.in_err-family.was in
    let told : c.in_err-family.field-0.0 ≡ blaming 1 (told_fault fault) = search rules in
    let read = rw is at c.read_book.ensures in
    rw (e.1, e.2, book-blamed a.book.now fault read a.press a.sheet.now a.work.now a.tree.now (on_press (goal.at.returns-in_err-family c).After-read_book))
    (record { answers = untried told; leaves_work = refl; leaves_tree = refl })

pub returns-in_err-s : goal.returns-in_err-s
returns-in_err-s c =
    let a = c.args in
    let p = goal.at.returns-in_err-s c in
    let e = err_from_is_err_and c.from_residual-in_err-s.result c.from_residual-in_err-s.ensures.1 in
    let (fault, is, made) = error-made _ c.number_sheet.result c.map_err-2.ensures.cases c.in_err-s.was in
    let told : c.in_err-s.field-0.0 ≡ blaming 2 (told_fault fault) = search rules in
    let read = rw is at c.number_sheet.ensures in
    rw (e.1, e.2, sheet-blamed a.press a.book.now a.sheet.now (family-read p.In_ok-family) fault read a.work.now a.tree.now (on_press p.After-read_book))
    (record { answers = untried told; leaves_work = refl; leaves_tree = refl })

pub lack-requires : goal.lack-requires
lack-requires c = (sheet-shows (goal.at.lack-requires c).In_ok-s).sizes

pub returns-in-Some : goal.returns-in-Some
returns-in-Some c =
    let a = c.args in
    let p = goal.at.returns-in-Some c in
    rw (room-lacks a.press a.book.now a.sheet.now (family-read p.In_ok-family) (sheet-read p.In_ok-s) a.work.now a.tree.now c.in-Some.short c.in-Some.ensures)
    (record { answers = untried c.answer-in-Some.ensures; leaves_work = refl; leaves_tree = refl })

pub split-joins-requires : goal.split-joins-requires
split-joins-requires c =
    rw c.rules-rules.ensures (record { rules_small = rows-small c.args.book.now (family-read (goal.at.split-joins-requires c).In_ok-family); all = refl })

pub fill_from-trials-requires : goal.fill_from-trials-requires
fill_from-trials-requires c =
    let shows = sheet-shows (goal.at.fill_from-trials-requires c).In_ok-s in
    record { tabled = record { sizes = shows.sizes; entries = (nothing-lacks _ _ _ _ c.in_default.ensures).0 }; painted = shows.painted }

pub invariant_of-fill_from : goal.invariant_of-fill_from
invariant_of-fill_from c =
    let split = rw c.rules-rules.ensures at c.split-joins.ensures in
    record { fit = masks-fit c.args.book.now (family-read (goal.at.invariant_of-fill_from c).In_ok-family) split }

pub invariant_of-table : goal.invariant_of-table
invariant_of-table c =
    let shows = sheet-shows (goal.at.invariant_of-table c).In_ok-s in
    let enough = nothing-lacks _ _ _ _ c.in_default.ensures in
    record { tabled = record { sizes = shows.sizes; entries = le_trans enough.0 (le_of_eq (sym c.fill_from-trials.auto.work)) } }

pub overflow_cast-family : goal.overflow_cast-family
overflow_cast-family c = let h = byte_start c.args.book.now (family-read (goal.at.overflow_cast-family c).In_ok-family) in search rules

pub judge-requires : goal.judge-requires
judge-requires c =
    let a = c.args in
    let p = goal.at.judge-requires c in
    let enough = nothing-lacks _ _ _ _ c.in_default.ensures in
    let split = rw c.rules-rules.ensures at c.split-joins.ensures in
    let fit = nodes-fit a.press a.book.now a.sheet.now (family-read p.In_ok-family) (sheet-read p.In_ok-s) a.work.now a.tree.now
    (λ i. (c.type_inv.book i).fits) (λ i. (c.type_inv.sheet i).fits) c.in_default.ensures split in
    rw c.new.ensures.rules (rw c.new.ensures.table (rw c.new.ensures.cells (rw c.rules-rules.ensures (record {
      room = enough.1;
      fitted = rw c.fill_from-trials.ensures.0 fit;
    }))))

pub returns : goal.returns
returns c =
    let a = c.args in
    let p = goal.at.returns c in
    let split = rw c.rules-rules.ensures at c.split-joins.ensures in
    let is = derived-as a.press a.book.now a.sheet.now (family-read p.In_ok-family) (sheet-read p.In_ok-s) a.work.now a.tree.now
    (λ i. (c.type_inv.book i).fits) (λ i. (c.type_inv.sheet i).fits) c.in_default.ensures split in
    let (table, tried) = c.fill_from-trials.ensures in
    let told = rw table at (rw c.rules-rules.ensures at (rw (c.new.ensures.table, c.new.ensures.cells, c.new.ensures.rules) at c.judge.ensures)) in
    rw is (record { answers = ap₂ telling (c.answer-answer.ensures ∙ ap plain told.answers) tried; leaves_work = table; leaves_tree = told.leaves })
