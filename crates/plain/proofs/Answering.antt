-- 21 is answered where there is no such press, a book or a sheet with a fault is answered with it, a sheet of more than 16 cells with 20, and else with what the search of the
-- whole sheet finds: the pieces of the sheet are searched as the picture.
use Prim.Native.Nat.{ℕ, ◌*◌, ◌≤◌, ◌<◌}
use mathlib.Core.Path.{◌≡◌, sym, ap, ◌∙◌}
use mathlib.Core.List.{List}
use native.Mathlib.Omega.{arith}
use borrow.Author.Tests.{lt-ltb, le-ltb}
use lib.ListN.{length, take, replicate}
use Rattle.std.specs.Prelude.{Ok, Err}
use Rattle.names.specs.Bytes.{Bytes}
use Rattle.names.specs.Fault.{told_fault}
use Rattle.names.specs.declared.fault.Fault.{Fault as CodeFault}
use Rattle.names.proofs.Refusing.{number-some}
use Rattle.names.specs.Pick.{pick}
use Rattle.books.specs.Answer.{plain, blaming}
use Rattle.books.specs.Book.{book_of}
use Rattle.books.specs.Contents.{Contents}
use Rattle.books.specs.Decide.{pictures, derives?}
use Rattle.books.specs.declared.answer.Answer.{Answer}
use Rattle.books.specs.Keeps.{most_rules}
use Rattle.books.specs.Lent.{contents_of, picture_of, Accepted}
use Rattle.books.specs.Numbering.{Numbers, numbers_of, numbers_for}
use Rattle.books.specs.Picture.{Picture}
use Rattle.books.specs.Press.{IsPress}
use Rattle.books.specs.Sheet.{sheet_of}
use Rattle.books.specs.Size.{room, Within}
use Rattle.books.specs.Told.{told_book, told_figures}
use Rattle.books.specs.declared.family.Family.{Family}
use Rattle.books.specs.BookRead.{BookRead}
use Rattle.books.specs.declared.sheet.Sheet.{Sheet}
use Rattle.books.specs.declared.sheet.SheetFigures.{SheetFigures as CodeSheetFigures}
use Rattle.books.specs.SheetRead.{SheetFigures}
use Rattle.books.proofs.AlikeSearches.{found_alike}
use Rattle.books.proofs.LentEnds.{Refusal, in_book, in_sheet, refused-so, both-go-on}
use Rattle.books.proofs.NumberedCells.{numbers_for_lem, numbers-fresh, fresh-room}
use Rattle.books.proofs.Presses.{greatest-few}
use Rattle.books.proofs.ReadingBooks.{book-places, book-count, book-start}
use Rattle.books.proofs.ReadingSheets.{sheet-lies}
use Rattle.books.proofs.SizesWithin.{within_more}
use Rattle.pieces.specs.Area.{whole}
use Rattle.pieces.specs.Most.{most}
use Rattle.pieces.specs.OnSheet.{on_sheet}
use Rattle.pieces.proofs.PiecesAlike.{NumberedBy, size_of, CutsOut, whole-cuts, pieces-alike, sheet-numbered}
use Rattle.plain.specs.Outcome.{most_cells, searched, plain_answer}
use Rattle.plain.specs.inner.Search.{found}

found-whole : (b : Contents) (p : Picture) (cells : List ℕ) → NumberedBy b p cells → (a : ℕ) → 1 ≤ p.rows → 1 ≤ p.cols
    → found b.rules (size_of p) cells a (whole p.rows p.cols) ≡ derives? b a p
unfolding found derives?
found-whole b p cells given a hr hc =
    found_alike (on_sheet (size_of p) cells) (pictures b) b.rules (CutsOut p) (pieces-alike b p cells given) _ a (whole p.rows p.cols) p (whole-cuts p hr hc)

pub refused-first : (press : ℕ) (book sheet : List ℕ) {a : Answer} → Refusal press book sheet a → plain_answer press book sheet ≡ a
unfolding plain_answer
refused-first press book sheet r = refused-so press (λ a. a) book sheet searched r

module _ (press : ℕ) (book sheet : List ℕ) where
  pub book-blamed : IsPress press → (f : CodeFault) → told_book (Err f) ≡ book_of book → plain_answer press book sheet ≡ blaming 1 (told_fault f)
  book-blamed is f read =
      refused-first press book sheet (in_book is (λ z. omega (arith, number-some f.refusal, ap (λ (x : BookRead). x.fault.number) read ∙ z)))
      ∙ ap (blaming 1) (sym (ap (λ (x : BookRead). x.fault) read))

  module _ {f : Family} (read : told_book (Ok f) ≡ book_of book) where
    family_is : f ≡ (book_of book).family
    family_is = ap (λ (x : BookRead). x.family) read

    book_fine : (book_of book).fault.number ≡ 0
    book_fine = ap (λ (x : BookRead). x.fault.number) (sym read)

    -- the rules have room, and the start motif is a byte
    pub few_rules : f.count ≤ most_rules
    few_rules = rw family_is (book-count book)

    pub byte_start : f.start < 256
    byte_start = rw family_is (omega (arith, book-start book))

    pub sheet-blamed : IsPress press → (g : CodeFault) {cells : List ℕ} → Numbers press book f.colours sheet (replicate room 0) (told_figures (Err g)) cells
        → plain_answer press book sheet ≡ blaming 2 (told_fault g)
    sheet-blamed is g shown =
        refused-first press book sheet
        (in_sheet is book_fine (λ z. omega (arith, number-some g.refusal, ap (λ (x : SheetFigures). x.fault.number) shown.figures ∙ z)))
        ∙ ap (blaming 2) (sym (ap (λ (x : SheetFigures). x.fault) shown.figures))

    module _ {s : CodeSheetFigures} {cells : List ℕ} (shown : Numbers press book f.colours sheet (replicate room 0) (told_figures (Ok s)) cells) where
      abbrev g : Sheet
      g = (sheet_of press sheet).sheet

      size_is : s.size ≡ g.size
      size_is = ap (λ (x : SheetFigures). x.size) shown.figures

      fine : Accepted press book sheet
      fine = record { book_fine = book_fine; sheet_fine = ap (λ (x : SheetFigures). x.fault.number) (sym shown.figures) }

      cells-room : length cells ≡ room
      cells-room = fresh-room press book f.colours sheet shown

      goes_on : plain_answer press book sheet ≡ searched (contents_of book) (picture_of press sheet)
      unfolding plain_answer
      goes_on = both-go-on press (λ a. a) book sheet searched fine

      -- no more rows and columns than there is room for, and a number for each cell
      pub sizes : Within most s.size.rows s.size.cols
      sizes = rw size_is (within_more (greatest-few press) (sheet-lies press sheet fine.sheet_fine).within)

      pub cells_all : s.size.rows * s.size.cols ≤ length cells
      cells_all = let lies = sheet-lies press sheet fine.sheet_fine in rw size_is (omega (arith, lies.area_few, cells-room))

      pub too_many : most_cells < s.size.rows * s.size.cols → plain_answer press book sheet ≡ plain 20
      unfolding searched
      too_many h = goes_on ∙ rw (lt-ltb most_cells (g.size.rows * g.size.cols) (rw size_is at h))

      module _ (bytes_book : Bytes book) (bytes_sheet : Bytes sheet) where
        numbered : cells ≡ numbers_of book (book_of book).family.colours sheet g
        numbered =
            numbers-fresh press book f.colours sheet shown ∙ ap (λ (x : BookRead). numbers_for book x.family.colours sheet g) read
            ∙ numbers_for_lem book (book_of book).family.colours sheet g (book-places book).few

        found-sheet : found (take f.count f.rules) s.size cells f.start (whole s.size.rows s.size.cols)
            ≡ derives? (contents_of book) (book_of book).family.start (picture_of press sheet)
        found-sheet =
            let few = (sheet-lies press sheet fine.sheet_fine).within in
            rw (size_is, numbered, family_is)
            (found-whole (contents_of book) (picture_of press sheet) (numbers_of book (book_of book).family.colours sheet g)
            (sheet-numbered press book sheet bytes_book bytes_sheet fine) (book_of book).family.start few.rows_some few.cols_some)

        pub told : s.size.rows * s.size.cols ≤ most_cells
            → plain_answer press book sheet ≡ pick (found (take f.count f.rules) s.size cells f.start (whole s.size.rows s.size.cols)) (plain 0) (plain 11)
        unfolding searched
        told h = goes_on ∙ rw (le-ltb most_cells (g.size.rows * g.size.cols) (rw size_is at h), found-sheet)
