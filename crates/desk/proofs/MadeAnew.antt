-- The entries that masks make anew are those that the rules give by the sheet as it is left: a cell's painters are the motifs that derive it, and the joins that fire at
-- the cuts of a larger piece are those that fit it.
use Prim.Native.Nat.{ℕ, ◌+◌, ◌*◌, ◌<◌}
use mathlib.Core.Path.{◌≡◌, sym, ap, ap₂, ◌∙◌}
use mathlib.Core.List.{List}
use mathlib.Core.Logic.{⊎_elim}
use native.Mathlib.Omega.{arith}
use borrow.Author.Tests.{eqb-true, eqb-false}
use lib.Dec.{eqb}
use lib.ListN.{get_or}
use Rattle.names.specs.Bytes.{Bytes}
use Rattle.names.proofs.Picking.{pick_ind}
use Rattle.names.proofs.Tests.{lt-or-le}
use Rattle.books.specs.Book.{book_of}
use Rattle.books.specs.Contents.{Contents}
use Rattle.books.specs.Grid.{Grid}
use Rattle.books.specs.Lent.{contents_of, picture_of}
use Rattle.books.specs.Numbering.{numbers_of, numbers_for}
use Rattle.books.specs.Picture.{Picture}
use Rattle.books.specs.Sheet.{sheet_of}
use Rattle.books.proofs.NumberedCells.{numbers_for_lem}
use Rattle.books.proofs.ReadingBooks.{book-places}
use Rattle.pieces.specs.Asking.{SplitFrom}
use Rattle.pieces.specs.Firing.{joins_fired}
use Rattle.pieces.specs.Filling.{entry_of}
use Rattle.pieces.specs.Masks.{painters_from}
use Rattle.pieces.specs.Pieces.{piece, Inside}
use Rattle.pieces.specs.Rights.{Serves}
use Rattle.pieces.specs.Refill.{HasCell, refilled, due_by}
use Rattle.pieces.specs.Table.{cut, entry}
use Rattle.pieces.specs.Split.{Split}
use Rattle.pieces.specs.declared.piece.Piece.{Piece}
use Rattle.pieces.proofs.AcceptedInputs.{as_read, cells-numbered}
use Rattle.pieces.proofs.AskingSheets.{book-serves}
use Rattle.pieces.proofs.Refilled.{refilled_same}
use Rattle.pieces.proofs.WholeTable.{AsRead, painted-entry}
use Rattle.desk.specs.Recolour.{sheet_with, ruled}
use Rattle.desk.specs.inner.ForCell.{painters_of}
use Rattle.desk.proofs.OneCell.{still-bytes, still-fine, contents-with}
use Rattle.desk.proofs.Ruled.{joined-ruled, cell-ruled}
use Rattle.desk.proofs.Recolouring.{Has}

module _ (press : ℕ) (book sheet : List ℕ) (bytes_book : Bytes book) (bytes_sheet : Bytes sheet) (book_fine : (book_of book).fault.number ≡ 0)
    (sheet_fine : (sheet_of press sheet).fault.number ≡ 0) (row column colour : ℕ)
    (has : Has (sheet_of press sheet).sheet.size (sheet_of press sheet).sheet.colours.count row column colour) where
  abbrev left_sheet : List ℕ
  left_sheet = sheet_with press sheet row column colour

  abbrev b : Contents
  b = contents_of book

  abbrev p : Picture
  p = picture_of press left_sheet

  pub left-fine : (sheet_of press left_sheet).fault.number ≡ 0
  left-fine = still-fine press sheet bytes_sheet sheet_fine row column colour has.row_on has.column_on has.colour_in

  -- it has the rows and the columns that it had
  pub same_rows : (sheet_of press left_sheet).sheet.size.rows ≡ (sheet_of press sheet).sheet.size.rows
  same_rows = ap (λ (g : Grid). g.rows) (contents-with press sheet bytes_sheet sheet_fine row column colour has.row_on has.column_on has.colour_in)

  pub same_cols : (sheet_of press left_sheet).sheet.size.cols ≡ (sheet_of press sheet).sheet.size.cols
  same_cols = ap (λ (g : Grid). g.cols) (contents-with press sheet bytes_sheet sheet_fine row column colour has.row_on has.column_on has.colour_in)

  given : AsRead press book (book_of book).family left_sheet (sheet_of press left_sheet).sheet
  given =
      as_read book book_fine press left_sheet left-fine bytes_book
      (still-bytes press sheet bytes_sheet sheet_fine row column colour has.row_on has.column_on has.colour_in)

  module _ (split : Split) (masks : List ℕ) (from : SplitFrom book split masks) (kept : split.colours ≡ (book_of book).family.colours) where
    serves : Serves b.rules masks split.joins
    serves = book-serves book split masks from

    abbrev pub paint : ℕ
    paint = painters_of press book split.colours masks left_sheet (row * (sheet_of press sheet).sheet.size.cols + column)

    -- the painters of the cell are the motifs that derive it
    paint-entry : paint ≡ entry b (cut p (piece 1 1 row column))
    unfolding painters_of
    paint-entry =
        let is : numbers_for book split.colours left_sheet (sheet_of press left_sheet).sheet ≡ numbers_of book (book_of book).family.colours left_sheet (sheet_of press left_sheet).sheet =
        rw kept (numbers_for_lem book (book_of book).family.colours left_sheet (sheet_of press left_sheet).sheet (book-places book).few) in
        ap₂ (λ (l : List ℕ) (n : ℕ). get_or masks (painters_from + get_or l (row * n + column) 0) 0) is (sym same_cols)
        ∙ painted-entry given _ (cells-numbered book book_fine press left_sheet left-fine) masks split.joins serves row column
        (omega (arith, has.row_on, same_rows)) (omega (arith, has.column_on, same_cols))

    -- what is due by the masks is what the rules give
    due-ruled : (t : List ℕ) (q : Piece) → Inside p.rows p.cols q → HasCell row column q
        → due_by (joins_fired masks split.joins) paint p.rows p.cols t q ≡ ruled b p t q
    unfolding due_by
    due-ruled t q inq hq =
        pick_ind (λ (e : ℕ). e ≡ ruled b p t q) (eqb (q.height + q.width) 2) paint (entry_of (joins_fired masks split.joins) p.rows p.cols t q)
        (λ e.
        let two : q.height + q.width ≡ 2 = eqb-true _ 2 e in
        let h : q.height ≡ 1 = omega (arith, inq.tall, inq.wide) in
        let w : q.width ≡ 1 = omega (arith, inq.tall, inq.wide) in
        paint-entry ∙ ap (λ (x : Piece). entry b (cut p x)) (the-cell q h w (omega (arith, hq.from_top, hq.upto_bottom)) (omega (arith, hq.from_left, hq.upto_right)))
        ∙ cell-ruled b given.book_keeps.sound p q t h w)
        (λ e.
        let larger = eqb-false (q.height + q.width) 2 e in
        joined-ruled b given.book_keeps.sound p q (joins_fired masks split.joins) serves.fires t (more q inq larger))
      where
        the-cell : (q : Piece) → q.height ≡ 1 → q.width ≡ 1 → q.top ≡ row → q.left ≡ column → piece 1 1 row column ≡ q
        the-cell q h w t l = rw (h, w, t, l)

        more : (q : Piece) → Inside p.rows p.cols q → (q.height + q.width ≡ 2 → ⊥) → 2 < q.height + q.width
        more q inq ne = ⊎_elim (λ (h : 2 < q.height + q.width). h) (λ h. absurd (ne (omega (arith, inq.tall, inq.wide)))) (lt-or-le 2 (q.height + q.width))

    pub made : (entries : List ℕ) → let s = (sheet_of press sheet).sheet.size in
        refilled (due_by (joins_fired masks split.joins) paint s.rows s.cols) s.rows s.cols row column entries
        ≡ refilled (ruled b p) p.rows p.cols row column entries
    made entries =
        ap₂ (λ (m n : ℕ). refilled (due_by (joins_fired masks split.joins) paint m n) m n row column entries) (sym same_rows) (sym same_cols)
        ∙ refilled_same p.rows p.cols row column _ (ruled b p) due-ruled entries
