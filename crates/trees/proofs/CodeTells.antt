-- Of any book and sheet of a press the code answers what the definition does: it judges the whole sheet as the picture.
use Prim.Native.Nat.{ℕ, ◌+◌, ◌≤◌, ◌<◌}
use mathlib.Core.Path.{◌≡◌, refl, sym, ap, ◌∙◌, subst}
use mathlib.Core.List.{List, [], ◌∷◌}
use native.Mathlib.Omega.{arith}
use borrow.Author.Tests.{le-leb, lt-leb}
use lib.ListN.{length, take, replicate, length-append}
use Rattle.std.specs.Prelude.{Ok, Err}
use Rattle.names.specs.Bytes.{Bytes}
use Rattle.names.specs.Fault.{Fault, told_fault}
use Rattle.names.specs.declared.fault.Fault.{Fault as CodeFault}
use Rattle.names.proofs.Refusing.{number-some}
use Rattle.books.specs.Answer.{blaming}
use Rattle.books.specs.Book.{book_of}
use Rattle.books.specs.Contents.{Contents}
use Rattle.books.specs.Decide.{pictures}
use Rattle.books.specs.Keeps.{most_rules, most_motifs}
use Rattle.books.specs.Lent.{contents_of, picture_of, Accepted}
use Rattle.books.specs.Numbering.{Numbers, numbers_of, numbers_for}
use Rattle.books.specs.Picture.{Picture}
use Rattle.books.specs.Press.{IsPress}
use Rattle.books.specs.Sheet.{sheet_of}
use Rattle.books.specs.Size.{room, Within}
use Rattle.books.specs.Told.{told_book, told_figures}
use Rattle.books.specs.declared.answer.Answer.{Answer}
use Rattle.books.specs.BookRead.{BookRead}
use Rattle.books.specs.declared.family.Family.{Family}
use Rattle.books.specs.declared.sheet.Sheet.{Sheet}
use Rattle.books.specs.declared.sheet.SheetFigures.{SheetFigures as CodeSheetFigures}
use Rattle.books.specs.SheetRead.{SheetFigures}
use Rattle.books.proofs.Deciding.{pictures-lessen}
use Rattle.books.proofs.LentEnds.{Refusal, in_book, in_sheet, refused-so}
use Rattle.books.proofs.NumberedCells.{numbers_for_lem, numbers-fresh}
use Rattle.books.proofs.Presses.{greatest-few}
use Rattle.books.proofs.ReadingBooks.{book-places, book-count, book-start}
use Rattle.books.proofs.ReadingSheets.{sheet-lies}
use Rattle.books.proofs.SizesWithin.{within_more}
use Rattle.pieces.specs.Area.{whole}
use Rattle.pieces.specs.Most.{most}
use Rattle.pieces.proofs.PiecesAlike.{sheet-numbered}
use Rattle.trees.specs.declared.held.Held.{Held}
use Rattle.trees.specs.declared.node.Node.{Node}
use Rattle.trees.specs.Judge.{Judged, past, failed, judge, ended, checked}
use Rattle.trees.specs.Outcome.{tree_answer}
use Rattle.trees.specs.inner.Held.{Tells, Refused, ended16, held_answer}
use Rattle.trees.specs.inner.OnSheets.{verdict, judged_at}
use Rattle.trees.proofs.Agreeing.{sheet-judged}
use Rattle.trees.proofs.Endings.{answered}
use Rattle.trees.proofs.Rows.{Says, says}
use Rattle.trees.proofs.Theorems.{ends}

module _ (b : Contents) (p : Picture) (ns : List Node) where
  -- a verdict ends as judging does: it is past all nodes exactly where none is left
  ended-alike : ended16 (verdict (judge b b.start p ns 0)) (length ns) ≡ blaming 0 (checked b p ns)
  unfolding checked judge
  ended-alike =
      by-judged (judge b b.start p ns 0)
      (says (pictures b) b.rules (λ q. q.rows + q.cols) (pictures-lessen b) (p.rows + p.cols) b.start p ns 0 (omega arith))
    where
      by-judged : (j : Judged) → Says (pictures b) b.rules (λ q. q.rows + q.cols) (pictures-lessen b) b.start p ns 0 j → ended16 (verdict j) (length ns) ≡ blaming 0 (ended j)
      by-judged (past e []) (xs, row, split, place) =
          let all : length ns ≤ e = omega (arith, ap length split ∙ length-append xs []) in
          rw (le-leb (length ns) e all)
      by-judged (past e (v ∷ vs)) (xs, row, split, place) =
          let some : e < length ns = omega (arith, ap length split ∙ length-append xs (v ∷ vs)) in
          rw (lt-leb (length ns) e some)
      by-judged (failed e) said = refl

pub refused : {press : ℕ} {book sheet : List ℕ} {a : Answer} → Refusal press book sheet a → Refused press book sheet a
unfolding tree_answer
refused {press} {book} {sheet} r = record { told = λ ns. sym (refused-so press (λ a. a) book sheet (λ b p. blaming 0 (checked b p ns)) r) }

pub book-refused : (press : ℕ) (book sheet : List ℕ) → IsPress press → (f : CodeFault) → told_book (Err f) ≡ book_of book → Refused press book sheet (blaming 1 (told_fault f))
book-refused press book sheet is f read =
    subst (λ (x : Fault). Refused press book sheet (blaming 1 x)) (sym (ap (λ (x : BookRead). x.fault) read))
    (refused (in_book is (λ z. omega (arith, number-some f.refusal, ap (λ (x : BookRead). x.fault.number) read ∙ z))))

module _ (book : List ℕ) {f : Family} (read : told_book (Ok f) ≡ book_of book) where
  family_is : f ≡ (book_of book).family
  family_is = ap (λ (x : BookRead). x.family) read

  book_fine : (book_of book).fault.number ≡ 0
  book_fine = ap (λ (x : BookRead). x.fault.number) (sym read)

  -- the rules have room, and the start motif is few
  pub few_rules : f.count ≤ most_rules
  few_rules = rw family_is (book-count book)

  pub few_start : f.start < most_motifs
  few_start = rw family_is (book-start book)

  module _ (press : ℕ) (sheet : List ℕ) where
    pub sheet-refused : IsPress press → (g : CodeFault) {cells : List ℕ} → Numbers press book f.colours sheet (replicate room 0) (told_figures (Err g)) cells
        → Refused press book sheet (blaming 2 (told_fault g))
    sheet-refused is g shown =
        subst (λ (x : Fault). Refused press book sheet (blaming 2 x)) (sym (ap (λ (x : SheetFigures). x.fault) shown.figures))
        (refused (in_sheet is book_fine (λ z. omega (arith, number-some g.refusal, ap (λ (x : SheetFigures). x.fault.number) shown.figures ∙ z))))

    module _ {s : CodeSheetFigures} {cells : List ℕ} (shown : Numbers press book f.colours sheet (replicate room 0) (told_figures (Ok s)) cells) where
      size_is : s.size ≡ (sheet_of press sheet).sheet.size
      size_is = ap (λ (x : SheetFigures). x.size) shown.figures

      fine : Accepted press book sheet
      fine = record { book_fine = book_fine; sheet_fine = ap (λ (x : SheetFigures). x.fault.number) (sym shown.figures) }

      pub sizes : Within most s.size.rows s.size.cols
      sizes = rw size_is (within_more (greatest-few press) (sheet-lies press sheet fine.sheet_fine).within)

      module _ (bytes_book : Bytes book) (bytes_sheet : Bytes sheet) where
        abbrev g : Sheet
        g = (sheet_of press sheet).sheet

        numbered : cells ≡ numbers_of book (book_of book).family.colours sheet g
        numbered =
            numbers-fresh press book f.colours sheet shown ∙ ap (λ (x : BookRead). numbers_for book x.family.colours sheet g) read
            ∙ numbers_for_lem book (book_of book).family.colours sheet g (book-places book).few

        judged : (ns : List Node)
            → judged_at s.size cells (take f.count f.rules) (record { piece = whole s.size.rows s.size.cols; motif = f.start }) ns 0
            ≡ verdict (judge (contents_of book) (contents_of book).start (picture_of press sheet) ns 0)
        unfolding judged_at
        judged ns =
            let few = (sheet-lies press sheet fine.sheet_fine).within in
            rw (size_is, numbered, family_is)
            (ap verdict (sheet-judged (contents_of book) (picture_of press sheet) _ (sheet-numbered press book sheet bytes_book bytes_sheet fine) (contents_of book).start ns 0
            few.rows_some few.cols_some))

        -- what the code tells of a whole row is the answer
        pub tells : (o : Held) → o.family ≡ f → o.size ≡ s.size → o.cells ≡ cells → Tells press book sheet o
        unfolding held_answer
        tells o family size colours =
            record {
              told = λ ns.
                  rw (family, size, colours)
                  (ap (λ v. ended16 v (length ns)) (judged ns) ∙ ended-alike (contents_of book) (picture_of press sheet) ns
                  ∙ sym (answered press book sheet ns fine (ends (contents_of book) (picture_of press sheet) ns)));
            }
