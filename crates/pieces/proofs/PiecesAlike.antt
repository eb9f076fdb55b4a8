-- A piece of a sheet and the picture that is cut out by it are alike, where each cell has its colour's number in the book: the parts of the one are the pieces of the
-- other's parts. A book and a sheet that are accepted give such numbers.
use Prim.Native.Nat.{ℕ, ◌+◌, ◌*◌, ◌≤◌, ◌<◌}
use mathlib.Core.Path.{◌≡◌, sym, ap, ap₂, ◌∙◌}
use mathlib.Core.Bool.{true}
use mathlib.Core.List.{List}
use mathlib.Core.Logic.{◌↔◌}
use native.Mathlib.Nat.{add-zero}
use native.Mathlib.Omega.{arith}
use lib.ListN.{length, get_or}
use Rattle.names.specs.Bytes.{Bytes}
use Rattle.names.specs.Colours.{names_in}
use Rattle.names.specs.Name.{listed}
use Rattle.names.specs.Spelling.{Distinct}
use Rattle.names.proofs.Finding.{find-listed}
use Rattle.names.proofs.Tests.{both_ways}
use Rattle.books.specs.Book.{book_of}
use Rattle.books.specs.Contents.{Contents, Has, Called}
use Rattle.books.specs.Decide.{pictures}
use Rattle.books.specs.Keeps.{Sound}
use Rattle.books.specs.Lent.{contents_of, picture_of, Accepted}
use Rattle.books.specs.Numbering.{numbers_of}
use Rattle.books.specs.Picture.{Picture, first, rest}
use Rattle.books.specs.Sheet.{sheet_of}
use Rattle.books.specs.declared.family.Family.{Family}
use Rattle.books.specs.declared.rule.Body.TheVariants.{Colour}
use Rattle.books.specs.declared.sheet.Sheet.{Sheet}
use Rattle.books.specs.declared.size.Size.{Size}
use Rattle.books.proofs.AlikeSearches.{Alike}
use Rattle.books.proofs.Deciding.{pictures-lessen}
use Rattle.books.proofs.Presses.{greatest-few}
use Rattle.books.proofs.ReadingSheets.{sheet-lies}
use Rattle.books.proofs.Searches.{one_cell}
use Rattle.pieces.specs.Area.{whole}
use Rattle.pieces.specs.Choice.{covers}
use Rattle.pieces.specs.Most.{most}
use Rattle.pieces.specs.OnSheet.{numbered, covers_on, on_sheet}
use Rattle.pieces.specs.Pieces.{Inside}
use Rattle.pieces.specs.Table.{cut}
use Rattle.pieces.specs.declared.piece.Piece.{Piece}
use Rattle.pieces.proofs.AcceptedInputs.{as_read, cells-numbered}
use Rattle.pieces.proofs.CellsFirst.{cell-before}
use Rattle.pieces.proofs.Cutting.{cut-reach, cut-first, cut-rest, cut-whole, whole-inside}
use Rattle.pieces.proofs.PartsOfPieces.{first-inside, rest-inside}
use Rattle.pieces.proofs.PiecesOnSheets.{cell-found, number-exact}
use Rattle.pieces.proofs.WholeTable.{book-colours, cell-name}

corner : (p : Picture) (q : Piece) → (cut p q).cell 0 0 ≡ p.cell q.top q.left
corner p q = ap₂ p.cell (add-zero q.top) (add-zero q.left)

-- each cell of a picture has a number, that of its colour in the book
pub record NumberedBy (b : Contents) (p : Picture) (cells : List ℕ) : Type 0 where
  pub sound : Sound b
  pub apart : Distinct b.colours
  pub rows_few : p.rows ≤ most
  pub cols_few : p.cols ≤ most
  pub all : p.rows * p.cols ≤ length cells
  pub each : (i j : ℕ) → i < p.rows → j < p.cols → get_or cells (i * p.cols + j) 0 ≡ listed b.colours (p.cell i j)

abbrev pub size_of : Picture → Size
size_of p = record { rows = p.rows; cols = p.cols }

-- a piece of a picture, and the picture that it cuts out
abbrev pub CutsOut : Picture → Piece → Picture → Type 0
CutsOut p q x = Inside p.rows p.cols q × (x ≡ cut p q)

pub whole-cuts : (p : Picture) → 1 ≤ p.rows → 1 ≤ p.cols → CutsOut p (whole p.rows p.cols) p
whole-cuts p hr hc = (whole-inside _ _ hr hc, sym (cut-whole p))

module _ (b : Contents) (p : Picture) (cells : List ℕ) (given : NumberedBy b p cells) where
  -- a piece is one cell of a rule's colour exactly where its picture is
  module _ (q : Piece) (i : Inside p.rows p.cols q) (c : ℕ) (ruled : (a : ℕ) × Has b a (Colour c)) where
    shown-exact : (covers_on (size_of p) cells q c ≡ true) ↔ ((q.height ≡ 1) × (q.width ≡ 1) × Called b c ((cut p q).cell 0 0))
    unfolding covers
    shown-exact =
        rw (cell-found (size_of p) q given.rows_few given.cols_few i cells c given.all, corner p q)
        (one_cell q.height q.width (numbered p.cols cells c q) (number-exact b p given.sound given.apart cells given.each c q i ruled))

    shown-alike : covers_on (size_of p) cells q c ≡ (pictures b).shown c (cut p q)
    shown-alike =
        let tested = (pictures-lessen b).tested c (cut p q) in
        both_ways _ _ (λ e. tested.1 (shown-exact.0 e)) (λ e. shown-exact.1 (tested.0 e))

  pub pieces-alike : Alike (on_sheet (size_of p) cells) (pictures b) b.rules (CutsOut p)
  pieces-alike =
      record {
        reaches = λ d q x (i, e). sym (cut-reach p q d) ∙ ap (λ (y : Picture). (pictures b).reach d y) (sym e);
        cells = λ a c q x m (i, e). shown-alike q i c (a, m) ∙ ap (λ (y : Picture). (pictures b).shown c y) (sym e);
        firsts = λ d k q x (i, e) h l. (first-inside d k i h (omega arith), ap (first d k) e ∙ cut-first p q d k);
        rests = λ d k q x (i, e) h l. (rest-inside d k i l, ap (rest d k) e ∙ cut-rest p q d k);
      }

-- ── A book and a sheet that are accepted ──

module _ (press : ℕ) (book sheet : List ℕ) (bytes_book : Bytes book) (bytes_sheet : Bytes sheet) (fine : Accepted press book sheet) where
  abbrev f : Family
  f = (book_of book).family

  abbrev g : Sheet
  g = (sheet_of press sheet).sheet

  pub sheet-numbered : NumberedBy (contents_of book) (picture_of press sheet) (numbers_of book f.colours sheet g)
  sheet-numbered =
      let read = as_read book fine.book_fine press sheet fine.sheet_fine bytes_book bytes_sheet in
      let numbers = cells-numbered book fine.book_fine press sheet fine.sheet_fine in
      let s = (sheet-lies press sheet fine.sheet_fine).within in
      record {
        sound = read.book_keeps.sound;
        apart = read.book_keeps.colours_ok.distinct;
        rows_few = omega (arith, s.rows_few, greatest-few press);
        cols_few = omega (arith, s.cols_few, greatest-few press);
        all = numbers.all;
        each = λ i j hi hj. numbers.each (i * g.size.cols + j) (cell-before g.size.rows g.size.cols i j hi hj)
            ∙ (find-listed book f.colours _ (book-colours read) ∙ ap (listed (names_in book f.colours)) (sym (cell-name read i j hi hj)));
      }
