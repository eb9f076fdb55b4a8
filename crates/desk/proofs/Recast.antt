-- What is left where nothing refuses the call, stated from the bytes: the sheet is read as its old contents with the cell, each piece that has the cell has what the
-- rules give it by the slice as it is left, and nothing else is touched.
use Prim.Native.Nat.{ℕ, ◌+◌, ◌-◌, ◌≤◌}
use mathlib.Core.Path.{◌≡◌, refl, sym, ap, ◌∙◌, subst}
use mathlib.Core.List.{List}
use native.Mathlib.Omega.{arith}
use borrow.Author.Tests.{le-ltb}
use lib.ListN.{length, get_or, drop, length-drop, length-set}
use lib.Seq.{ext_get_or, get_or-drop, get_or-set_other}
use Rattle.names.specs.Bytes.{Bytes}
use Rattle.books.specs.Answer.{plain}
use Rattle.books.specs.Contents.{Contents}
use Rattle.books.specs.ContentsIn.{grid_in}
use Rattle.books.specs.Lent.{contents_of, picture_of, Accepted}
use Rattle.books.specs.Keeps.{Sound}
use Rattle.books.specs.Picture.{Picture}
use Rattle.books.specs.Sheet.{sheet_of}
use Rattle.books.proofs.ReadingBooks.{book-accepted}
use Rattle.pieces.specs.Asking.{start_answer}
use Rattle.pieces.specs.Derivation.{entries_needed}
use Rattle.pieces.specs.Filling.{at}
use Rattle.pieces.specs.Pieces.{Inside, slot_of}
use Rattle.pieces.specs.Refill.{HasCell, refilled}
use Rattle.pieces.specs.declared.piece.Piece.{Piece}
use Rattle.pieces.proofs.Refilled.{RefilledUpTo, refilled-ends}
use Rattle.pieces.proofs.Slots.{slot_lt, slot-inj}
use Rattle.desk.specs.Recolour.{cell_place, sheet_with, ruled, Recolouring, judged_sheet, recast, recolouring}
use Rattle.desk.proofs.OneCell.{grid_with, contents-with}
use Rattle.desk.proofs.MadeAnew.{left-fine, same_rows, same_cols}
use Rattle.desk.proofs.Recolouring.{Has, it-has, recast-last}
use Rattle.desk.proofs.Ruled.{ruled-local}

-- the book and the sheet are accepted, the sheet has the cell and the colour, and the slice is long enough
pub record Taken (press : ℕ) (book sheet entries : List ℕ) (row column colour : ℕ) : Type 0 where
  pub bytes_book : Bytes book
  pub bytes_sheet : Bytes sheet
  pub fine : Accepted press book sheet
  pub has : Has (sheet_of press sheet).sheet.size (sheet_of press sheet).sheet.colours.count row column colour
  pub room : entries_needed (picture_of press sheet) ≤ length entries

module _ (press : ℕ) (book sheet entries : List ℕ) (row column colour : ℕ) (t : Taken press book sheet entries row column colour) where
  abbrev pub left : Recolouring
  left = recolouring press book sheet entries row column colour

  abbrev b : Contents
  b = contents_of book

  -- the sheet as it is left, and what it shows
  abbrev changed : List ℕ
  changed = sheet_with press sheet row column colour

  abbrev p : Picture
  p = picture_of press changed

  pub sound : Sound b
  sound = (book-accepted book t.bytes_book t.fine.book_fine).keeps.sound

  is : left ≡ judged_sheet b p changed (refilled (ruled b p) p.rows p.cols row column entries)
  unfolding recast
  is =
      recast-last press book sheet entries row column colour t.fine.book_fine t.fine.sheet_fine (it-has _ _ row column colour t.has)
      (le-ltb (length entries) (entries_needed (picture_of press sheet)) t.room)

  -- ── The sheet ──

  pub sheet-left : left.bytes ≡ changed
  sheet-left = ap (λ (x : Recolouring). x.bytes) is

  pub still-accepted : (sheet_of press changed).fault.number ≡ 0
  still-accepted = left-fine press book sheet t.bytes_book t.bytes_sheet t.fine.book_fine t.fine.sheet_fine row column colour t.has

  -- it is read as the old contents with that cell, ticket and all
  pub read-with : grid_in changed (sheet_of press changed).sheet ≡ grid_with (grid_in sheet (sheet_of press sheet).sheet) row column colour
  read-with = contents-with press sheet t.bytes_sheet t.fine.sheet_fine row column colour t.has.row_on t.has.column_on t.has.colour_in

  pub other-bytes : (i : ℕ) → (i ≡ cell_place (length sheet) (sheet_of press sheet).sheet.size row column → ⊥) → get_or changed i 0 ≡ get_or sheet i 0
  other-bytes i ne = get_or-set_other sheet _ i colour 0 ne

  pub as-many-bytes : length changed ≡ length sheet
  as-many-bytes = length-set sheet _ colour

  -- ── The entries ──

  pub rows_same : p.rows ≡ (picture_of press sheet).rows
  rows_same = same_rows press book sheet t.bytes_book t.bytes_sheet t.fine.book_fine t.fine.sheet_fine row column colour t.has

  pub cols-same : p.cols ≡ (picture_of press sheet).cols
  cols-same = same_cols press book sheet t.bytes_book t.bytes_sheet t.fine.book_fine t.fine.sheet_fine row column colour t.has

  long-enough : entries_needed p ≤ length entries
  long-enough = rw (rows_same, cols-same) t.room

  ends : RefilledUpTo (ruled b p) p.rows p.cols row column entries (entries_needed p) left.entries
  ends =
      rw is
      (refilled-ends (ruled b p) p.rows p.cols row column entries long-enough (λ r s q inq same. ruled-local b sound p q r s inq same))

  -- each piece with the cell has what the rules give it
  pub each-refilled : (q : Piece) → Inside p.rows p.cols q → HasCell row column q → at p.rows p.cols left.entries q ≡ ruled b p left.entries q
  each-refilled q inq hq = ends.fresh q inq hq (slot_lt p.rows p.cols q inq)

  -- a piece without it, and whatever stands beyond the table, is as it was
  pub piece-kept : (q : Piece) → Inside p.rows p.cols q → (HasCell row column q → ⊥) → at p.rows p.cols left.entries q ≡ at p.rows p.cols entries q
  piece-kept q inq far =
      ends.kept (slot_of p.rows p.cols q) (λ x inx hx e. far (subst (HasCell row column) (slot-inj p.rows p.cols x q inx inq e) hx))

  pub as-many-entries : length left.entries ≡ length entries
  as-many-entries = ends.sized

  pub beyond-kept : drop (entries_needed p) left.entries ≡ drop (entries_needed p) entries
  beyond-kept =
      ext_get_or 0 _ _ (length-drop (entries_needed p) left.entries ∙ ap (λ (n : ℕ). n - entries_needed p) as-many-entries ∙ sym (length-drop (entries_needed p) entries))
      (λ i h. get_or-drop (entries_needed p) left.entries i 0 ∙ ends.kept (entries_needed p + i) (λ x inx hx e. omega (arith, slot_lt p.rows p.cols x inx))
      ∙ sym (get_or-drop (entries_needed p) entries i 0))

  -- 0 or 11 by the start motif's bit in the whole sheet's entry as it then stands
  pub answered-by-bit : left.answer ≡ plain (start_answer p.rows p.cols left.entries b.start)
  answered-by-bit = rw is refl
