-- One book asked for one sheet after another: the book is read and split into masks once, and each sheet gets its table and an answer, with no tree.
-- What is told by any masks, and what by a book.
use Rattle.std.specs.Prelude.{ℕ, ◌≡◌, List, eqb, ltb, length}
use Rattle.names.specs.Pick.{pick}
use Rattle.books.specs.Contents.{Contents}
use Rattle.books.specs.Picture.{Picture}
use Rattle.books.specs.Lent.{contents_of, lent_sheet}
use Rattle.books.specs.Decide.{derives?}
use Rattle.books.specs.Book.{book_of}
use Rattle.books.specs.Sheet.{sheet_of, over, sheet_figures}
use Rattle.books.specs.Numbering.{numbers_of, numbers_for}
use Rattle.books.specs.Answer.{plain, blaming}
use Rattle.books.specs.declared.answer.Answer.{Answer}
use Rattle.books.specs.BookRead.{BookRead}
use Rattle.books.specs.SheetRead.{SheetFigures}
use Rattle.pieces.specs.Pieces.{total}
use Rattle.pieces.specs.Area.{whole}
use Rattle.pieces.specs.Derivation.{entries_needed, filled}
use Rattle.pieces.specs.Masks.{all_masks, Masked, laid}
use Rattle.pieces.specs.Firing.{fitting}
use Rattle.pieces.specs.Filling.{filled_by}
use Rattle.pieces.specs.Largest.{marked, fits_table}
use Rattle.pieces.specs.declared.asking.Asked.{Asked}
use Rattle.pieces.specs.Split.{Split}
use Rattle.pieces.specs.declared.masks.Joins.{Joins}

-- ── The book ──

-- what is kept of a book, and what stands in the slice of masks
pub record SplitBook : Type 0 where
  pub split : Split
  pub masks : List ℕ

abbrev pub kept_with : Split → List ℕ → SplitBook
kept_with split masks = record { split = split; masks = masks }

abbrev pub keeping : BookRead → Masked → SplitBook
keeping b s = kept_with (record { fault = b.fault; colours = b.family.colours; start = b.family.start; joins = s.joins }) s.masks

unfoldable pub split_book : List ℕ → List ℕ → SplitBook
split_book book masks = keeping (book_of book) (laid (book_of book).fault.number (contents_of book).rules masks)

-- ── A sheet by masks ──

-- the answer, and what stands in the work slice
pub record Asking : Type 0 where
  pub answer : Answer
  pub entries : List ℕ

abbrev pub unwritten : Answer → List ℕ → Asking
unwritten a entries = record { answer = a; entries = entries }

-- 0 where a motif has its bit at the whole sheet, and else 11
unfoldable pub start_answer : ℕ → ℕ → List ℕ → ℕ → ℕ
start_answer m n entries start = pick (marked m n entries start (whole m n)) 0 11

-- the same of any slice: 11 where it has no room for the table
unfoldable pub whole_answer : ℕ → ℕ → List ℕ → ℕ → ℕ
whole_answer m n entries start = pick (fits_table m n (length entries)) (start_answer m n entries start) 11

abbrev pub judged_by : ℕ → ℕ → ℕ → List ℕ → Asking
judged_by m n start entries = record { answer = plain (start_answer m n entries start); entries = entries }

-- the sheet's fault, then 9 where the work slice is too short, then 11 where the masks do not fit; on these nothing is written
unfoldable pub told_by : SheetFigures → List ℕ → ℕ → Joins → List ℕ → List ℕ → Asking
told_by g cells start j masks entries =
    pick (eqb g.fault.number 0)
    (pick (ltb (length entries) (total g.size.rows g.size.cols)) (unwritten (plain 9) entries)
    (pick (fitting (length masks) j) (judged_by g.size.rows g.size.cols start (filled_by masks j cells g.size.rows g.size.cols entries))
    (unwritten (plain 11) entries)))
    (unwritten (blaming 2 g.fault) entries)

-- what is told of a sheet, the numbers of its cells, and what stands in the work slice
pub record AskedSheet : Type 0 where
  pub asked : Asked
  pub cells : List ℕ
  pub entries : List ℕ

abbrev pub asked_with : Asked → List ℕ → List ℕ → AskedSheet
asked_with r cells entries = record { asked = r; cells = cells; entries = entries }

abbrev pub sheet_told : SheetFigures → List ℕ → Asking → AskedSheet
sheet_told g cells a = asked_with (record { answer = a.answer; ticket = g.ticket; size = g.size }) cells a.entries

-- a sheet whose cells are numbered by the colours kept, over what stood in their array; of what is told the masks change the answer 0 or 11 alone
unfoldable pub ask_sheet : ℕ → List ℕ → Split → List ℕ → List ℕ → List ℕ → List ℕ → AskedSheet
ask_sheet press book split masks sheet before entries =
    let g = sheet_figures (sheet_of press sheet) in
    let cells = numbers_for book split.colours sheet (over before (sheet_of press sheet)).sheet in
    sheet_told g cells (told_by g cells split.start split.joins masks entries)

-- ── A sheet by a book ──

-- with the table written: 0 where the start motif derives the picture, and else 11
unfoldable pub tabled : Contents → Picture → List ℕ → Asking
tabled b p entries = record { answer = plain (pick (derives? b b.start p) 0 11); entries = filled b p entries }

-- the sheet's fault, then 9 where the work slice is too short; on these nothing is written
unfoldable pub asking : ℕ → List ℕ → List ℕ → List ℕ → Asking
asking press book sheet entries =
    lent_sheet press 2 sheet (λ a. unwritten a entries) (λ p.
    pick (ltb (length entries) (entries_needed p)) (unwritten (plain 9) entries) (tabled (contents_of book) p entries))

-- what is kept of an accepted book, and the masks of its rules over whatever stood in a slice that has room for them alone
pub record SplitFrom (book : List ℕ) (split : Split) (masks : List ℕ) : Type 0 where
  pub accepted : (book_of book).fault.number ≡ 0
  pub before : List ℕ
  pub sized : length before ≡ all_masks
  pub is : kept_with split masks ≡ split_book book before

-- by these a sheet is told what asking the book says; its cells have the numbers of their colours in the book
pub record Asks (press : ℕ) (book sheet before entries : List ℕ) (r : Asked) (cells left : List ℕ) : Type 0 where
  pub answers : r.answer ≡ (asking press book sheet entries).answer
  pub ticket : r.ticket ≡ (sheet_of press sheet).sheet.ticket
  pub size : r.size ≡ (sheet_of press sheet).sheet.size
  pub cells_are : cells ≡ numbers_of book (book_of book).family.colours sheet (over before (sheet_of press sheet)).sheet
  pub leaves_work : left ≡ (asking press book sheet entries).entries
