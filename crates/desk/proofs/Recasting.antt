-- What recolouring asks of its functions holds where nothing lacks, and what they leave is the outcome: the book, the sheet and the masks are told by equations, so that
-- what each call ensures is taken as it is.
use Prim.Native.Nat.{ℕ, ◌+◌, ◌*◌, ◌≤◌, ◌<◌}
use mathlib.Core.Path.{◌≡◌, refl, sym, ap, ap₂, ◌∙◌}
use mathlib.Core.Bool.{true}
use mathlib.Core.List.{List}
use native.Mathlib.Nat.{le_trans, le_of_eq}
use native.Mathlib.Omega.{arith}
use borrow.Author.Tests.{le-ltb}
use lib.ListN.{length, replicate}
use Rattle.names.specs.Bytes.{Bytes}
use Rattle.names.specs.Fault.{Fault}
use Rattle.books.specs.Answer.{plain}
use Rattle.books.specs.Book.{book_of}
use Rattle.books.specs.Lent.{picture_of}
use Rattle.books.specs.Sheet.{sheet_of, sheet_figures}
use Rattle.books.specs.Size.{Within}
use Rattle.books.specs.declared.answer.Answer.{Answer}
use Rattle.books.specs.SheetRead.{SheetFigures}
use Rattle.books.proofs.Presses.{greatest-few}
use Rattle.books.proofs.ReadingSheets.{sheet-lies}
use Rattle.books.proofs.SizesWithin.{within_more}
use Rattle.pieces.specs.Asking.{kept_with, split_book, start_answer, whole_answer, SplitFrom}
use Rattle.pieces.specs.Derivation.{entries_needed}
use Rattle.pieces.specs.Firing.{joins_fired, fitting}
use Rattle.pieces.specs.Masks.{all_masks}
use Rattle.pieces.specs.Most.{most}
use Rattle.pieces.specs.Pieces.{total}
use Rattle.pieces.specs.Refill.{refilled, due_by, refills?, refilled_by}
use Rattle.pieces.specs.Split.{Split}
use Rattle.pieces.proofs.AskingSheets.{kept-fault, kept-start, kept-colours, kept_from, book-serves}
use Rattle.pieces.proofs.CellsFirst.{cell-before}
use Rattle.pieces.proofs.LookedThrough.{room_fits, whole_in}
use Rattle.pieces.proofs.RefilledBy.{refills-exactly, all_made}
use Rattle.pieces.proofs.ServingMasks.{fitting-all}
use Rattle.desk.specs.Recolour.{with_cell, sheet_with, recast, recolouring, Recolours}
use Rattle.desk.specs.inner.ForCell.{painters_of, lacking_for, CellDue, PaintersDue}
use Rattle.desk.proofs.OneCell.{cells-inside}
use Rattle.desk.proofs.MadeAnew.{left-fine, same_rows, same_cols, made}
use Rattle.desk.proofs.Recolouring.{Has, it-has, nothing-lacks, recast-last}

-- what is known where the book was split and the sheet read, and nothing lacks
pub record Known (press : ℕ) (book sheet entries : List ℕ) (row column colour : ℕ) (split : Split) (masks : List ℕ) (g : SheetFigures) : Type 0 where
  pub bytes_book : Bytes book
  pub bytes_sheet : Bytes sheet
  pub kept : kept_with split masks ≡ split_book book (replicate all_masks 0)
  pub book_ok : split.fault.number ≡ 0
  pub is : g ≡ sheet_figures (sheet_of press sheet)
  pub sheet_ok : g.fault.number ≡ 0
  pub none : lacking_for g.size g.colours row column colour (length entries) ≡ 0

module _ {press : ℕ} {book sheet entries : List ℕ} {row column colour : ℕ} {split : Split} {masks : List ℕ} {g : SheetFigures}
    (known : Known press book sheet entries row column colour split masks g) where
  book_fine : (book_of book).fault.number ≡ 0
  book_fine = ap (λ (f : Fault). f.number) (sym (kept-fault book _ known.kept)) ∙ known.book_ok

  is : g ≡ sheet_figures (sheet_of press sheet)
  is = known.is

  sheet_fine : (sheet_of press sheet).fault.number ≡ 0
  sheet_fine = ap (λ (x : SheetFigures). x.fault.number) (sym is) ∙ known.sheet_ok

  enough : Has (sheet_of press sheet).sheet.size (sheet_of press sheet).sheet.colours.count row column colour × (entries_needed (picture_of press sheet) ≤ length entries)
  enough =
      nothing-lacks press book sheet entries row column colour book_fine sheet_fine
      (ap (λ (x : SheetFigures). lacking_for x.size x.colours row column colour (length entries)) (sym is) ∙ known.none)

  from : SplitFrom book split masks
  from = kept_from book _ known.kept known.book_ok refl

  sizes : Within most g.size.rows g.size.cols
  sizes = rw is (within_more (greatest-few press) (sheet-lies press sheet sheet_fine).within)

  row_on : row < g.size.rows
  row_on = rw is enough.0.row_on

  column_on : column < g.size.cols
  column_on = rw is enough.0.column_on

  room : total g.size.rows g.size.cols ≤ length entries
  room = rw is enough.1

  fits : fitting (length masks) split.joins ≡ true
  fits = (book-serves book split masks from).fits

  pub cell-due : CellDue g.size (length sheet) row column colour
  cell-due =
      let few = (sheet-lies press sheet sheet_fine).places.few in
      record {
        sizes = sizes;
        cells = rw is (cells-inside press sheet known.bytes_sheet sheet_fine);
        row_on = row_on;
        column_on = column_on;
        byte = omega (arith, few, enough.0.colour_in);
      }

  all_fit : refills? g.size (length entries) (length masks) split.joins row column ≡ true
  all_fit = (refills-exactly _ _ _ _ _ _).1 (record { sizes = sizes; room = room; fits = fits; row_on = row_on; column_on = column_on })

  module _ {changed : List ℕ} (put : changed ≡ with_cell sheet g.size row column colour) {at : ℕ} (placed : at ≡ row * g.size.cols + column) where
    is-left : changed ≡ sheet_with press sheet row column colour
    is-left = put ∙ ap (λ (x : SheetFigures). with_cell sheet x.size row column colour) is

    pub painters-due : PaintersDue press changed (length masks) at
    painters-due =
        let fine = left-fine press book sheet known.bytes_book known.bytes_sheet book_fine sheet_fine row column colour enough.0 in
        let rows = same_rows press book sheet known.bytes_book known.bytes_sheet book_fine sheet_fine row column colour enough.0 in
        let cols = same_cols press book sheet known.bytes_book known.bytes_sheet book_fine sheet_fine row column colour enough.0 in
        rw (is-left, placed, is)
        (record {
          accepted = fine;
          fit = fitting-all _ _ fits;
          cell = rw (rows, cols) (cell-before (sheet_of press sheet).sheet.size.rows (sheet_of press sheet).sheet.size.cols row column enough.0.row_on enough.0.column_on);
        })

    pub recast-as : {x : ℕ} → x ≡ painters_of press book split.colours masks changed at
        → {t : List ℕ} → length t ≡ length entries → t ≡ refilled_by masks split.joins g.size row column x entries
        → {r : Answer} → r ≡ plain (whole_answer g.size.rows g.size.cols t split.start)
        → Recolours (recolouring press book sheet entries row column colour) r changed t
    unfolding recast
    recast-as {x} painted {t} sized filled told =
        let last = recast-last press book sheet entries row column colour book_fine sheet_fine (it-has _ _ row column colour enough.0)
        (le-ltb (length entries) (entries_needed (picture_of press sheet)) enough.1) in
        let p = picture_of press (sheet_with press sheet row column colour) in
        let rows = same_rows press book sheet known.bytes_book known.bytes_sheet book_fine sheet_fine row column colour enough.0 in
        let cols = same_cols press book sheet known.bytes_book known.bytes_sheet book_fine sheet_fine row column colour enough.0 in
        let paint = painted ∙ ap₂ (painters_of press book split.colours masks) is-left (placed ∙ ap (λ (f : SheetFigures). row * f.size.cols + column) is) in
        let work = filled ∙ all_made masks split.joins g.size row column x entries all_fit
        ∙ ap₂ (λ (z : ℕ) (f : SheetFigures).
        refilled (due_by (joins_fired masks split.joins) z f.size.rows f.size.cols) f.size.rows f.size.cols row column entries) paint is
        ∙ made press book sheet known.bytes_book known.bytes_sheet book_fine sheet_fine row column colour enough.0 split masks from (kept-colours book _ known.kept) entries in
        rw last
        (record {
          answers =
              told
              ∙ ap plain (whole_in t split.start g.size.rows g.size.cols (room_fits _ _ _ sizes (le_trans room (le_of_eq (sym sized)))))
              ∙ ap (λ (f : SheetFigures). plain (start_answer f.size.rows f.size.cols t split.start)) is
              ∙ ap₂ (λ (m n : ℕ). plain (start_answer m n t split.start)) (sym rows) (sym cols)
              ∙ ap₂ (λ (w : List ℕ) (a : ℕ). plain (start_answer p.rows p.cols w a)) work (kept-start book _ known.kept);
          leaves_sheet = is-left;
          leaves_work = work;
        })
