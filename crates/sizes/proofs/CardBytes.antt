-- A set bit of a size card means that some bytes of a sheet of that size get 0: a picture that the family has is of the book's own colours, so that over the
-- book's colour list it is the contents of a sheet, and their spelling is read back.
use Prim.Native.Nat.{ℕ, ◌+◌, ◌-◌, ◌*◌, ◌/◌, ◌%◌, ◌^◌, ◌≤◌, ◌<◌}
use mathlib.Core.Path.{◌≡◌, refl, sym, ap, ◌∙◌, subst}
use mathlib.Core.List.{List, [], ◌∷◌}
use mathlib.Core.Logic.{◌↔◌}
use native.Mathlib.Nat.{mod-lt, div-lt_iff_lt-mul}
use native.Mathlib.Omega.{arith}
use lib.Arith.{digits_div, digits_mod}
use lib.ListN.{length, get_or, replicate, length-replicate}
use Rattle.names.specs.Bits.{bit}
use Rattle.names.specs.Counted.{each}
use Rattle.names.specs.Name.{listed}
use Rattle.names.specs.Fault.{Fault}
use Rattle.names.proofs.Listing.{listed_found}
use Rattle.names.specs.Bytes.{Bytes}
use Rattle.books.specs.Answer.{packed}
use Rattle.books.specs.Book.{book_of}
use Rattle.books.specs.Contents.{Contents}
use Rattle.books.specs.Derives.{Derives}
use Rattle.books.specs.Grid.{Grid, GridKeeps, picture}
use Rattle.books.specs.Keeps.{Keeps}
use Rattle.books.specs.Lent.{contents_of, picture_of}
use Rattle.books.specs.Calls.{size_of}
use Rattle.books.specs.Picture.{Picture, Same}
use Rattle.books.specs.Press.{greatest_of}
use Rattle.books.specs.SpellSheet.{spell_sheet}
use Rattle.books.proofs.CellsCalled.{cells-listed}
use Rattle.books.proofs.LongestSheet.{spelling-bytes}
use Rattle.books.proofs.NothingEmpty.{derives-rows, derives-cols}
use Rattle.books.proofs.ReadingBooks.{book-accepted}
use Rattle.books.proofs.SamePictures.{derives-same}
use Rattle.books.proofs.SpellingSheets.{sheet-read-back}
use Rattle.pieces.specs.Area.{whole, tree_size}
use Rattle.pieces.specs.Derivation.{derivation, LeavesPacked}
use Rattle.pieces.specs.Pieces.{total}
use Rattle.pieces.proofs.CellsFirst.{cell-before}
use Rattle.pieces.proofs.Demand2Numbers.{dv_derive-numbers}
use Rattle.sizes.specs.Outcome.{size_card, Leaves}
use Rattle.sizes.specs.Gets.{Gets0}
use Rattle.sizes.specs.Promise.{Sized}
use Rattle.sizes.proofs.CardTheorems.{dv_size_card-holds, bit-exactly}
use Rattle.sizes.proofs.Demand1.{dv_size_card-answered}
use Rattle.sizes.proofs.Listing.{each-length, each_at}

-- ── A sheet of a derived picture ──

module _ (b : Contents) (p : Picture) where
  -- the number that the colour of cell k has in the book, row by row
  abbrev number : ℕ → ℕ
  number k = listed b.colours (p.cell (k / p.cols) (k % p.cols))

  -- the picture over the book's colours, with the ticket 0
  abbrev grid_of : Grid
  grid_of = record { colours = b.colours; ticket = 0; rows = p.rows; cols = p.cols; cells = each (p.rows * p.cols) (λ k. number k ∷ []) }

module _ (press : ℕ) (b : Contents) (a : ℕ) (p : Picture) (derived : Derives b a p) where
  abbrev area : ℕ
  area = p.rows * p.cols

  grid-keeps : Keeps b → p.rows ≤ greatest_of press → p.cols ≤ greatest_of press → GridKeeps press (grid_of b p)
  grid-keeps keeps hr hc =
      let some_cols = derives-cols derived in
      record {
        colours_ok = keeps.colours_ok;
        ticket_few = omega arith;
        within = record { rows_some = derives-rows derived; rows_few = hr; cols_some = some_cols; cols_few = hc };
        cells_all = each-length (number b p) area;
        cells_fit = λ k h.
            let low : k < area = omega (arith, each-length (number b p) area) in
            let row : k / p.cols < p.rows = (div-lt_iff_lt-mul some_cols).1 low in
            rw (each_at (number b p) area k low) (listed_found b.colours _ (cells-listed derived (k / p.cols) (k % p.cols) row (mod-lt k some_cols))).0;
      }

  grid-same : Same p (picture (grid_of b p))
  grid-same =
      record {
        same_rows = refl;
        same_cols = refl;
        same_cell = λ i j hi hj.
            rw (each_at (number b p) area (i * p.cols + j) (cell-before p.rows p.cols i j hi hj), digits_div i {m = p.cols} {r = j} hj, digits_mod i {m = p.cols} {r = j} hj)
            (sym (listed_found b.colours (p.cell i j) (cells-listed derived i j hi hj)).1);
      }

-- ── The theorem ──

module _ (press : ℕ) (book : List ℕ) (bytes : Bytes book) (fine : (book_of book).fault.number ≡ 0) where
  abbrev contents : Contents
  contents = contents_of book

  sized-gets : (r c : ℕ) → r ≤ greatest_of press → c ≤ greatest_of press → Sized contents r c → Gets0 press book r c
  sized-gets r c hr hc x =
      let keeps = (book-accepted book bytes fine).keeps in
      let g = grid_of contents x.sheet in
      let kept = grid-keeps press contents contents.start x.sheet x.derived keeps (omega (arith, x.rows_are)) (omega (arith, x.cols_are)) in
      let (read, is) = sheet-read-back press g kept in
      let rows_are : (size_of press (spell_sheet g)).rows ≡ r = ap (λ (y : Grid). y.rows) is ∙ x.rows_are in
      let cols_are : (size_of press (spell_sheet g)).cols ≡ c = ap (λ (y : Grid). y.cols) is ∙ x.cols_are in
      let member = derives-same (grid-same press contents contents.start x.sheet x.derived) x.derived in
      record {
        sheet = spell_sheet g;
        bytes = spelling-bytes press g kept;
        rows_are = rows_are;
        cols_are = cols_are;
        gets_0 = λ work tree work_left tree_left n long enough left.
            (dv_derive-numbers press book (spell_sheet g) work tree left).zero.1 (
              record { book_fine = fine; sheet_fine = ap (λ (f : Fault). f.number) read },
              record { work_long = rw (rows_are, cols_are) long; tree_long = rw (rows_are, cols_are) enough },
              subst (Derives contents contents.start) (sym (ap picture is)) member,
            );
      }

-- every sheet that gets 0 has a size that the family has
pub derived-sized : (press : ℕ) (book sheet work tree work_left tree_left : List ℕ) (n : ℕ) → LeavesPacked (derivation press book sheet work tree) n work_left tree_left
    → n % 2 ^ 8 ≡ 0 → Sized (contents_of book) (size_of press sheet).rows (size_of press sheet).cols
derived-sized press book sheet work tree work_left tree_left n left zero =
    let (fine, room, member) = (dv_derive-numbers press book sheet work tree left).zero.0 zero in
    record { sheet = picture_of press sheet; derived = member; rows_are = refl; cols_are = refl }

gets-sized : (press : ℕ) (book : List ℕ) (r c : ℕ) → Gets0 press book r c → Sized (contents_of book) r c
gets-sized press book r c x =
    let work : List ℕ = replicate (total r c) 0 in
    let tree : List ℕ = replicate (tree_size (whole r c)) 0 in
    let d = derivation press book x.sheet work tree in
    let n = packed d.answer d.trials in
    let left : LeavesPacked d n d.entries d.numbers = record { answers = refl; leaves_work = refl; leaves_tree = refl } in
    let long : total r c ≤ length work = omega (arith, length-replicate {A = ℕ} (total r c) 0) in
    let enough : tree_size (whole r c) ≤ length tree = omega (arith, length-replicate {A = ℕ} (tree_size (whole r c)) 0) in
    let zero = x.gets_0 work tree d.entries d.numbers n long enough left in
    rw (x.rows_are, x.cols_are) at (derived-sized press book x.sheet work tree d.entries d.numbers n left zero)

-- where the call for the card answers 0, a bit of the card is set exactly when some bytes of that size get 0
pub bit-gets-0 : (press : ℕ) (book slice left : List ℕ) (n : ℕ) → Bytes book → Leaves (size_card press book slice) n left → n % 2 ^ 8 ≡ 0
    → (r c : ℕ) → 1 ≤ r → r ≤ greatest_of press → 1 ≤ c → c ≤ greatest_of press → (bit (get_or left (r - 1) 0) (c - 1) ≡ 1) ↔ Gets0 press book r c
bit-gets-0 press book slice left n bytes called zero r c hr kr hc kc =
    let fine = ((dv_size_card-answered press book slice n left called).zero.0 zero).1 in
    let says = bit-exactly (greatest_of press) (contents_of book) slice left (n / 2 ^ 32) (dv_size_card-holds press book slice n left called zero) r c hr kr hc kc in
    (λ o. sized-gets press book bytes fine r c kr kc (says.0 o), λ x. says.1 (gets-sized press book r c x))
