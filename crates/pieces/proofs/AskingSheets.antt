-- By what is kept of an accepted book, a sheet is told what asking the book says: the masks serve the book's rules, so that the table is that of the book, and the bit
-- of the start motif at the whole sheet says whether it derives the sheet.
use Prim.Native.Nat.{ℕ, ◌≤◌, ◌<◌}
use mathlib.Core.Path.{◌≡◌, sym, ap, ap₂, ◌∙◌, subst}
use mathlib.Core.List.{List}
use native.Mathlib.Decide.{dec_lt, ℕ_discrete}
use native.Mathlib.Omega.{arith}
use borrow.Author.Tests.{eq-eqb, ne_eqb, lt-ltb, le-ltb}
use lib.ListN.{length, take}
use Rattle.names.specs.declared.colours.Colours.{Colours}
use Rattle.std.specs.Prelude.{Ok, Err}
use Rattle.names.specs.Pick.{fault}
use Rattle.names.specs.Fault.{Fault, told_fault}
use Rattle.names.specs.declared.fault.Fault.{Fault as CodeFault}
use Rattle.names.specs.Bytes.{Bytes}
use Rattle.books.specs.Book.{book_of}
use Rattle.books.specs.Contents.{Contents}
use Rattle.books.specs.Numbering.{numbers_of, numbers_for, Numbers}
use Rattle.books.specs.Picture.{Picture}
use Rattle.books.specs.Sheet.{sheet_of, over, sheet_figures}
use Rattle.books.specs.declared.family.Family.{Family}
use Rattle.books.specs.SheetRead.{SheetFigures}
use Rattle.books.specs.Answer.{blaming}
use Rattle.books.specs.Told.{told_book, told_figures}
use Rattle.books.proofs.Following.{told-some}
use Rattle.books.specs.declared.sheet.Sheet.{Sheet}
use Rattle.books.proofs.NumberedCells.{numbers_for_lem, numbers-long, numbers-few}
use Rattle.books.proofs.Presses.{greatest-few}
use Rattle.books.proofs.SizesWithin.{within_more}
use Rattle.books.proofs.ReadingBooks.{book-places}
use Rattle.books.proofs.ReadingSheets.{sheet-lies}
use Rattle.pieces.specs.Area.{whole}
use Rattle.pieces.specs.Asking.{SplitBook, kept_with, keeping, split_book, start_answer, judged_by, told_by, AskedSheet, asked_with, sheet_told, ask_sheet, tabled, asking, SplitFrom, Asks}
use Rattle.pieces.specs.Derivation.{entries_needed, filled}
use Rattle.pieces.specs.Filling.{filled_by}
use Rattle.pieces.specs.Largest.{marked}
use Rattle.pieces.specs.Masks.{all_masks, Masked, split_of, laid}
use Rattle.pieces.specs.Rights.{Serves}
use Rattle.pieces.specs.declared.asking.Asked.{Asked}
use Rattle.pieces.specs.Split.{Split, told_split}
use Rattle.pieces.specs.inner.ForTable.{Shows}
use Rattle.pieces.proofs.AcceptedInputs.{rules-read, as_read, cells_over}
use Rattle.pieces.proofs.Cutting.{whole-inside, cut-whole}
use Rattle.books.specs.Lent.{contents_of, picture_of}
use Rattle.pieces.proofs.Entries.{entry-tests}
use Rattle.pieces.proofs.Judging.{filled-holds, held-entry}
use Rattle.pieces.proofs.ServingMasks.{split-serves}
use Rattle.pieces.proofs.WholeTable.{whole-table}

-- ── What was read ──

pub read-split : (book before : List ℕ) {f : Family} {s : Masked} → told_book (Ok f) ≡ book_of book → s ≡ laid 0 (take f.count f.rules) before
    → kept_with (record { fault = fault 0 0; colours = f.colours; start = f.start; joins = s.joins }) s.masks ≡ split_book book before
unfolding split_book
read-split book before read is = rw (is, ← read)

pub refused-split : (book before : List ℕ) (f : CodeFault) → told_book (Err f) ≡ book_of book → kept_with (told_split (Err f)) before ≡ split_book book before
unfolding split_book laid
refused-split book before f read = rw (← read, ne_eqb (told_fault f).number 0 (told-some f))

pub read-shows : (press : ℕ) (book : List ℕ) (c : Colours) (sheet before : List ℕ) {g : SheetFigures} {cells : List ℕ} → Numbers press book c sheet before g cells
    → g.fault.number ≡ 0 → Shows g cells
read-shows press book c sheet before n = rw (n.figures, n.cells) shows
  where
    shows : (sheet_of press sheet).fault.number ≡ 0 → Shows (sheet_figures (sheet_of press sheet)) (numbers_for book c sheet (over before (sheet_of press sheet)).sheet)
    shows z =
        let k = sheet-lies press sheet z in
        record {
          sizes = within_more (greatest-few press) k.within;
          painted = record { all = numbers-long press book c sheet before; low = λ i h. omega (arith, numbers-few press book c sheet before i h) };
        }

-- a refused sheet has no ticket and no size
pub refused-sheet : (press : ℕ) (book : List ℕ) (split : Split) (masks sheet before entries : List ℕ) (f : CodeFault) {cells : List ℕ}
    → Numbers press book split.colours sheet before (told_figures (Err f)) cells
    → asked_with (record { answer = blaming 2 (told_fault f); ticket = 0; size = record { rows = 0; cols = 0 } }) cells entries
    ≡ ask_sheet press book split masks sheet before entries
unfolding ask_sheet told_by
refused-sheet press book split masks sheet before entries f {cells} n =
    blamed ∙ ap₂ (λ (g : SheetFigures) (x : List ℕ). sheet_told g x (told_by g x split.start split.joins masks entries)) n.figures n.cells
  where
    blamed : asked_with (record { answer = blaming 2 (told_fault f); ticket = 0; size = record { rows = 0; cols = 0 } }) cells entries
        ≡ sheet_told (told_figures (Err f)) cells (told_by (told_figures (Err f)) cells split.start split.joins masks entries)
    blamed = rw (ne_eqb (told_fault f).number 0 (told-some f))

-- ── What is kept of a book ──

module _ (book before : List ℕ) {split : Split} {masks : List ℕ} (is : kept_with split masks ≡ split_book book before) where
  pub kept-fault : split.fault ≡ (book_of book).fault
  unfolding split_book
  kept-fault = ap (λ (x : SplitBook). x.split.fault) is

  pub kept-start : split.start ≡ (book_of book).family.start
  unfolding split_book
  kept-start = ap (λ (x : SplitBook). x.split.start) is

  pub kept-colours : split.colours ≡ (book_of book).family.colours
  unfolding split_book
  kept-colours = ap (λ (x : SplitBook). x.split.colours) is

  -- of an accepted one, with the masks of its rules where the slice has room for them alone
  pub kept_from : split.fault.number ≡ 0 → length before ≡ all_masks → SplitFrom book split masks
  kept_from fine sized = record { accepted = ap (λ (x : Fault). x.number) (sym kept-fault) ∙ fine; before = before; sized = sized; is = is }

module _ (book : List ℕ) (split : Split) (masks : List ℕ) (from : SplitFrom book split masks) where
  abbrev b : Contents
  b = contents_of book

  is-split : kept_with split masks ≡ keeping (book_of book) (split_of b.rules from.before)
  unfolding split_book laid
  is-split = from.is ∙ rw (eq-eqb (book_of book).fault.number 0 from.accepted, eq-eqb (length from.before) all_masks from.sized)

  -- its masks serve its rules, ...
  pub book-serves : Serves b.rules masks split.joins
  book-serves =
      subst (λ (x : SplitBook). Serves b.rules x.masks x.split.joins) (sym is-split) (split-serves b.rules from.before (rules-read book from.accepted).few from.sized)

-- ── The bit of the start motif at the whole sheet ──

start-tells : (b : Contents) (p : Picture) (entries : List ℕ) → 1 ≤ p.rows → 1 ≤ p.cols → b.start < b.motifs
    → judged_by p.rows p.cols b.start (filled b p entries) ≡ tabled b p entries
unfolding start_answer marked tabled
start-tells b p entries rows_some cols_some low =
    let sheet = whole p.rows p.cols in
    let held = held-entry b p (filled b p entries) (filled-holds b p entries) sheet (whole-inside p.rows p.cols rows_some cols_some) in
    rw (held, cut-whole p, entry-tests b p b.start low)

-- ── What is told ──

module _ (press : ℕ) (book sheet : List ℕ) (bytes_book : Bytes book) (bytes_sheet : Bytes sheet) (split : Split) (masks : List ℕ) (from : SplitFrom book split masks)
    (before entries : List ℕ) where
  abbrev f : Family
  f = (book_of book).family

  abbrev g : Sheet
  g = (sheet_of press sheet).sheet

  abbrev p : Picture
  p = picture_of press sheet

  abbrev figures : SheetFigures
  figures = sheet_figures (sheet_of press sheet)

  abbrev left : Sheet
  left = (over before (sheet_of press sheet)).sheet

  abbrev numbers : List ℕ
  numbers = numbers_for book f.colours sheet left

  serves : Serves (contents_of book).rules masks split.joins
  serves = book-serves book split masks from

  by-table : (sheet_of press sheet).fault.number ≡ 0 → entries_needed p ≤ length entries
      → judged_by g.size.rows g.size.cols f.start (filled_by masks split.joins (numbers_of book f.colours sheet left) g.size.rows g.size.cols entries)
      ≡ tabled (contents_of book) p entries
  by-table fine enough =
      let read = as_read book from.accepted press sheet fine bytes_book bytes_sheet in
      let k = read.sheet_keeps.within in
      ap (judged_by g.size.rows g.size.cols f.start) (whole-table read _ (cells_over book from.accepted press sheet fine before) masks split.joins serves entries enough)
      ∙ start-tells (contents_of book) p entries k.rows_some k.cols_some read.book_keeps.sound.start_fits

  told : told_by figures numbers f.start split.joins masks entries ≡ asking press book sheet entries
  unfolding told_by asking
  told = go (ℕ_discrete (sheet_of press sheet).fault.number 0) (dec_lt (length entries) (entries_needed p))
    where
      go : Dec ((sheet_of press sheet).fault.number ≡ 0) → Dec (length entries < entries_needed p) → told_by figures numbers f.start split.joins masks entries ≡ asking press book sheet entries
      go (no n) d = rw (ne_eqb (sheet_of press sheet).fault.number 0 n)
      go (yes z) (yes l) = rw (eq-eqb (sheet_of press sheet).fault.number 0 z, lt-ltb (length entries) (entries_needed p) l)
      go (yes z) (no l) =
          let enough : entries_needed p ≤ length entries = omega arith in
          rw (eq-eqb (sheet_of press sheet).fault.number 0 z, le-ltb (length entries) (entries_needed p) enough, serves.fits, numbers_for_lem book f.colours sheet left (book-places book).few)
          (by-table z enough)

  -- the whole outcome of ask_sheet, by the book alone
  pub asked-of-book : ask_sheet press book split masks sheet before entries ≡ sheet_told figures numbers (asking press book sheet entries)
  unfolding ask_sheet
  asked-of-book =
      ap (λ (x : SplitBook).
      let cells = numbers_for book x.split.colours sheet left in
      sheet_told figures cells (told_by figures cells x.split.start split.joins masks entries))
      (is-split book split masks from)
      ∙ ap (sheet_told figures numbers) told

  pub book-asks : (r : Asked) (cells work : List ℕ) → asked_with r cells work ≡ ask_sheet press book split masks sheet before entries
      → Asks press book sheet before entries r cells work
  book-asks r cells work e =
      let is = e ∙ asked-of-book in
      record {
        answers = ap (λ (x : AskedSheet). x.asked.answer) is;
        ticket = ap (λ (x : AskedSheet). x.asked.ticket) is;
        size = ap (λ (x : AskedSheet). x.asked.size) is;
        cells_are = ap (λ (x : AskedSheet). x.cells) is ∙ numbers_for_lem book f.colours sheet left (book-places book).few;
        leaves_work = ap (λ (x : AskedSheet). x.entries) is;
      }
