-- Where a book and a sheet, as bytes, get 0, at every node of the derivation a rule fits: the table that is left holds the motifs of every piece, and the start's bit
-- of the whole sheet is set in it.
use Prim.Native.Nat.{ℕ}
use mathlib.Core.Path.{◌≡◌, refl, sym, subst}
use mathlib.Core.List.{List}
use borrow.Author.Tests.{eq-eqb}
use lib.ListN.{get_or}
use Rattle.names.specs.Bits.{bit, is_set}
use Rattle.names.specs.Bytes.{Bytes}
use Rattle.books.specs.Book.{book_of}
use Rattle.books.specs.Contents.{Contents}
use Rattle.books.specs.Lent.{contents_of, picture_of}
use Rattle.books.specs.Numbering.{numbers_of}
use Rattle.books.specs.Picture.{Picture}
use Rattle.books.specs.Sheet.{sheet_of}
use Rattle.books.specs.Size.{size_by}
use Rattle.pieces.specs.Largest.{marked}
use Rattle.pieces.specs.Area.{whole}
use Rattle.pieces.specs.Derivation.{Derivation, derivation, telling}
use Rattle.pieces.specs.Pieces.{slot_of}
use Rattle.pieces.specs.View.{View}
use Rattle.pieces.specs.inner.Fitted.{Fitted}
use Rattle.pieces.specs.inner.Seen.{has_bit, seen}
use Rattle.pieces.proofs.AcceptedInputs.{as_read, cells-numbered}
use Rattle.pieces.proofs.Cutting.{whole-inside, cut-whole}
use Rattle.pieces.proofs.Demand2.{table-written, bit-exactly}
use Rattle.pieces.proofs.Demand2Numbers.{derive-numbers}
use Rattle.pieces.proofs.Judging.{Holds, filled-holds, every-node-fits}

module _ (press : ℕ) (book sheet work tree : List ℕ) (book-bytes : Bytes book) (sheet-bytes : Bytes sheet) where
  abbrev b : Contents
  b = contents_of book

  abbrev p : Picture
  p = picture_of press sheet

  abbrev left : Derivation
  left = derivation press book sheet work tree

  -- the number that each cell's colour has in the book
  abbrev numbers : List ℕ
  numbers = numbers_of book (book_of book).family.colours sheet (sheet_of press sheet).sheet

  -- what the tree writer goes by: the bits of the table that is left, and those numbers
  abbrev pub view : View
  view = seen (size_by p.rows p.cols) left.entries numbers

  pub nodes-fit : left.answer.number ≡ 0 → Fitted view b.rules b.start (whole p.rows p.cols)
  unfolding has_bit marked is_set
  nodes-fit zero =
      let (fine, room, member) = (derive-numbers press book sheet work tree {r = telling left.answer left.trials} {w = left.entries} {t = left.numbers}
      (record { answers = refl; leaves_work = refl; leaves_tree = refl })).zero.0 zero in
      let given = as_read book fine.book_fine press sheet fine.sheet_fine book-bytes sheet-bytes in
      let numbered = cells-numbered book fine.book_fine press sheet fine.sheet_fine in
      let holds = subst (Holds b p) (sym (table-written press book sheet work tree fine room)) (filled-holds b p work) in
      let k = given.sheet_keeps.within in
      let inside = whole-inside p.rows p.cols k.rows_some k.cols_some in
      let set = (bit-exactly press book sheet work tree fine room book-bytes b.start (whole p.rows p.cols) inside).1 (rw (cut-whole p) member) in
      every-node-fits given left.entries holds numbers numbered
      (eq-eqb (bit (get_or left.entries (slot_of p.rows p.cols (whole p.rows p.cols)) 0) b.start) 1 set)
