-- A book and a sheet that were read: where one has a fault, or a slice is too short, that is the answer; and else the masks of the rules fill the table, and what
-- the table tells is what the book and the sheet say.
use Prim.Native.Nat.{ℕ}
use mathlib.Core.Path.{◌≡◌, refl, sym, ap, ◌∙◌, subst}
use mathlib.Core.Bool.{true}
use mathlib.Core.List.{List}
use lib.ListN.{length, take, replicate}
use Rattle.std.specs.Prelude.{Option, Some, None, Ok, Err}
use Rattle.names.specs.Bytes.{Bytes}
use Rattle.names.specs.Fault.{Fault, told_fault}
use Rattle.names.specs.declared.fault.Fault.{Fault as CodeFault}
use Rattle.books.specs.Reply.{number_of}
use Rattle.books.specs.Told.{told_book, told_figures}
use Rattle.books.specs.declared.reply.Reply.{Reply}
use Rattle.books.specs.declared.sheet.SheetFigures.{SheetFigures as CodeSheetFigures}
use Rattle.books.proofs.Following.{told-some}
use Rattle.books.specs.Answer.{plain, blaming}
use Rattle.books.specs.Book.{book_of}
use Rattle.books.specs.Lent.{contents_of, picture_of, Accepted}
use Rattle.books.specs.Numbering.{numbers_of, numbers_for, Numbers}
use Rattle.books.specs.Press.{IsPress}
use Rattle.books.specs.Sheet.{sheet_of}
use Rattle.books.specs.Size.{room}
use Rattle.books.specs.declared.family.Family.{Family}
use Rattle.books.specs.BookRead.{BookRead}
use Rattle.books.specs.declared.rule.Rule.{Rule}
use Rattle.books.specs.declared.sheet.Sheet.{Sheet}
use Rattle.books.specs.SheetRead.{SheetFigures}
use Rattle.books.proofs.LentEnds.{in_book, in_sheet}
use Rattle.books.proofs.LentRules.{rules-stand}
use Rattle.books.proofs.NumberedCells.{numbers_for_lem, numbers-fresh}
use Rattle.books.proofs.ReadingBooks.{book-places, book-start}
use Prim.Native.Nat.{◌<◌}
use native.Mathlib.Omega.{arith}
use Rattle.books.proofs.ReadingSheets.{sheet-lies}
use Rattle.pieces.specs.Derivation.{leaving, trials_needed, derivation}
use Rattle.pieces.specs.Filling.{filled_by}
use Rattle.pieces.specs.Masks.{all_masks, Masked, masked, split_of}
use Rattle.pieces.specs.Rights.{Serves}
use Rattle.pieces.specs.declared.masks.Joins.{Joins}
use Rattle.pieces.specs.inner.Fitted.{Fitted}
use Rattle.pieces.specs.inner.ForTable.{MasksFit}
use Rattle.pieces.specs.inner.Seen.{whole_of, has_bit, seen}
use Rattle.pieces.specs.inner.Small.{SmallRules}
use Rattle.pieces.specs.inner.Tally.{tried_by}
use Rattle.pieces.specs.inner.Verdict.{Verdict, verdict, lacking}
use Rattle.pieces.proofs.AcceptedInputs.{rules-read, as_read, cells-numbered}
use Rattle.pieces.proofs.DerivationAnswers.{refused-first, then-room}
use Rattle.pieces.proofs.Judging.{made-fits, judged-made}
use Rattle.pieces.proofs.MakingTrials.{tried-listed}
use Rattle.pieces.proofs.Lacking.{nothing-lacks, roomed-short, roomed-enough}
use Rattle.pieces.proofs.ServingMasks.{split-fit, split-serves}
use Rattle.pieces.proofs.WholeTable.{AsRead, Numbered}

-- ── The book ──

pub book-blamed : (book : List ℕ) (f : CodeFault) → told_book (Err f) ≡ book_of book → (press : ℕ) (sheet entries numbers : List ℕ) → IsPress press
    → derivation press book sheet entries numbers ≡ leaving (blaming 1 (told_fault f)) entries numbers
book-blamed book f read press sheet entries numbers is =
    let at : (book_of book).fault ≡ told_fault f = sym (ap (λ (x : BookRead). x.fault) read) in
    refused-first press book sheet entries numbers (in_book is (rw at (told-some f))) ∙ ap (λ (x : Fault). leaving (blaming 1 x) entries numbers) at

module _ (book : List ℕ) {f : Family} (read : told_book (Ok f) ≡ book_of book) where
  abbrev rules : List Rule
  rules = take f.count f.rules

  book_accepted : (book_of book).fault.number ≡ 0
  book_accepted = sym (ap (λ (x : BookRead). x.fault.number) read)

  start-is : f.start ≡ (book_of book).family.start
  start-is = ap (λ (x : BookRead). x.family.start) read

  rules-are : rules ≡ (contents_of book).rules
  rules-are = rules-stand book read

  pub byte_start : f.start < 256
  byte_start = omega (arith, book-start book, start-is)

  pub rows-small : SmallRules rules
  rows-small = rw rules-are (rules-read book book_accepted)

  module _ {masks : List ℕ} {j : Joins} (split : masked masks j ≡ split_of rules (replicate all_masks 0)) where
    pub masks-fit : MasksFit (length masks) j
    masks-fit = subst (λ (x : Masked). MasksFit (length x.masks) x.joins) (sym split) (split-fit rules (replicate all_masks 0) rows-small.few refl)

    masks-serve : Serves (contents_of book).rules masks j
    masks-serve =
        rw (← rules-are) (subst (λ (x : Masked). Serves rules x.masks x.joins) (sym split) (split-serves rules (replicate all_masks 0) rows-small.few refl))

-- ── The book and the sheet ──

pub sheet-blamed : (press : ℕ) (book sheet : List ℕ) {f : Family} → told_book (Ok f) ≡ book_of book → (g : CodeFault) {before cells : List ℕ}
    → Numbers press book f.colours sheet before (told_figures (Err g)) cells → (entries numbers : List ℕ) → IsPress press
    → derivation press book sheet entries numbers ≡ leaving (blaming 2 (told_fault g)) entries numbers
sheet-blamed press book sheet read g shown entries numbers is =
    let at : (sheet_of press sheet).fault ≡ told_fault g = sym (ap (λ (x : SheetFigures). x.fault) shown.figures) in
    refused-first press book sheet entries numbers (in_sheet is (book_accepted book read) (rw at (told-some g)))
    ∙ ap (λ (x : Fault). leaving (blaming 2 x) entries numbers) at

module _ (press : ℕ) (book sheet : List ℕ) {f : Family} (read : told_book (Ok f) ≡ book_of book) {s : CodeSheetFigures} {cells : List ℕ}
    (shown : Numbers press book f.colours sheet (replicate room 0) (told_figures (Ok s)) cells) (entries numbers : List ℕ) where
  abbrev lack : Option Reply
  lack = lacking s.size.rows s.size.cols (length entries) (length numbers)

  abbrev g : Sheet
  g = (sheet_of press sheet).sheet

  same-size : s.size ≡ g.size
  same-size = ap (λ (x : SheetFigures). x.size) shown.figures

  fine : Accepted press book sheet
  fine = record { book_fine = book_accepted book read; sheet_fine = sym (ap (λ (x : SheetFigures). x.fault.number) shown.figures) }

  pub room-lacks : (short : Reply) → Some short ≡ lack → derivation press book sheet entries numbers ≡ leaving (plain (number_of short)) entries numbers
  room-lacks short is =
      then-room press book sheet entries numbers fine ∙ roomed-short (contents_of book) (picture_of press sheet) entries numbers short (rw same-size at is)

  module _ (bytes_book : Bytes book) (bytes_sheet : Bytes sheet) (enough : None ≡ lack) {masks : List ℕ} {j : Joins}
      (split : masked masks j ≡ split_of (take f.count f.rules) (replicate all_masks 0)) where
    given : AsRead press book (book_of book).family sheet g
    given = as_read book fine.book_fine press sheet fine.sheet_fine bytes_book bytes_sheet

    numbered : Numbered book (book_of book).family sheet g cells
    numbered =
        let is : cells ≡ numbers_of book (book_of book).family.colours sheet g =
        numbers-fresh press book f.colours sheet shown ∙ ap (λ (x : BookRead). numbers_for book x.family.colours sheet g) read
        ∙ numbers_for_lem book (book_of book).family.colours sheet g (book-places book).few in
        rw is (cells-numbered book fine.book_fine press sheet fine.sheet_fine)

    abbrev pub made : List ℕ
    made = filled_by masks j cells s.size.rows s.size.cols entries

    abbrev pub tells : Verdict
    tells = verdict (seen s.size made cells) (take f.count f.rules) f.start (whole_of s.size) numbers

    pub nodes-fit : has_bit s.size made f.start (whole_of s.size) ≡ true → Fitted (seen s.size made cells) (take f.count f.rules) f.start (whole_of s.size)
    nodes-fit =
        rw (same-size, start-is book read, rules-are book read)
        (made-fits given cells numbered masks j (masks-serve book read split) entries (nothing-lacks _ _ _ _ (rw same-size at enough)).0)

    -- the masks are those of the rules, so that there are as many trials as the list has
    listed : tried_by j s.size.rows s.size.cols ≡ trials_needed (contents_of book) (picture_of press sheet)
    listed =
        let w = (sheet-lies press sheet fine.sheet_fine).within in
        let by = ap (λ (x : Masked). x.joins) split ∙ ap (λ (l : List Rule). (split_of l (replicate all_masks 0)).joins) (rules-are book read) in
        rw (same-size, by) (tried-listed (contents_of book).rules (replicate all_masks 0) _ _ w.rows_some w.cols_some)

    pub derived-as : derivation press book sheet entries numbers
        ≡ record { answer = plain tells.number; trials = tried_by j s.size.rows s.size.cols; entries = made; numbers = tells.numbers }
    derived-as =
        rw (listed, same-size, start-is book read, rules-are book read)
        (then-room press book sheet entries numbers fine
        ∙ roomed-enough (contents_of book) (picture_of press sheet) entries numbers (rw same-size at enough)
        ∙ judged-made given cells numbered masks j (masks-serve book read split) entries (nothing-lacks _ _ _ _ (rw same-size at enough)).0 numbers)
