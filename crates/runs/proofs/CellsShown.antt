-- The cells of an accepted sheet have colours of the book, since the rules derive it. So how many show a colour's full name is how many have its number.
use Prim.Native.Nat.{ℕ, ◌*◌, ◌/◌, ◌%◌, ◌<◌}
use mathlib.Core.Path.{◌≡◌, sym, ap, ◌∙◌}
use mathlib.Core.List.Memᴰ
use mathlib.Core.List.{List, [], map, Memᴰ}
use native.Mathlib.Nat.{mod-lt, div-add-mod', div-lt_iff_lt-mul}
use native.Mathlib.Omega.{arith}
use borrow.Author.Tests.{eq-eqb, eqb-true}
use lib.Dec.{eqb}
use lib.ListN.{length, get_or, take, drop, length-map}
use lib.Seq.{get_or-take, length-take-le, take_at}
use Rattle.names.specs.Name.{Name, listed}
use Rattle.names.specs.Colours.{names_in}
use Rattle.names.specs.Spelling.{most_colours, ColoursOk, Distinct}
use Rattle.names.proofs.Finding.{find-listed}
use Rattle.names.proofs.Listing.{listed_found, listed-own}
use Rattle.names.proofs.ReadingColours.{names-count, name-at}
use Rattle.names.specs.Bytes.{Bytes}
use Rattle.names.proofs.Tests.{both_ways}
use Rattle.books.specs.Book.{book_of}
use Rattle.books.specs.Contents.{Contents}
use Rattle.books.specs.ContentsIn.{contents_in}
use Rattle.books.specs.Decide.{called?}
use Rattle.books.specs.Derives.{Member}
use Rattle.books.specs.Numbering.{number_of, numbers_of}
use Rattle.books.specs.Sheet.{sheet_of, over}
use Rattle.books.specs.declared.family.Family.{Family}
use Rattle.books.specs.declared.sheet.Sheet.{Sheet}
use Rattle.books.proofs.CellsCalled.{cells-listed}
use Rattle.books.proofs.Deciding.{called}
use Rattle.books.proofs.CellsOver.{over-is, over-long, over-at}
use Rattle.books.proofs.NumberedCells.{number_at}
use Rattle.books.proofs.ReadingBooks.{book-accepted}
use Rattle.books.proofs.ReadingSheets.{SheetLies, sheet-lies}
use Rattle.books.specs.Lent.{picture_of, Accepted, contents_of}
use Rattle.runs.specs.Figures.{showing}
use Rattle.runs.specs.Lists.{how_many}
use Rattle.runs.proofs.CountingLists.{how_many-same}

-- ── A name by its number ──

-- a listed name is that of the colour that has its number, and of no other, since no name stands twice
called-number : (b : Contents) → Distinct b.colours → (n : Name) → Memᴰ n b.colours → (c : ℕ) → called? b c n ≡ eqb (listed b.colours n) c
called-number b apart n m c =
    both_ways (called? b c n) (eqb (listed b.colours n) c)
    (λ t. let (low, is) = (called b c n).0 t in eq-eqb (listed b.colours n) c (ap (listed b.colours) is ∙ listed-own b.colours c apart low))
    (λ t.
    let e = eqb-true (listed b.colours n) c t in
    let (low, is) = listed_found b.colours n m in
    (called b c n).1 (omega (arith, low, e), sym is ∙ ap (λ (k : ℕ). get_or b.colours k []) e))

-- ── The cells of an accepted sheet ──

module _ (press : ℕ) (book sheet : List ℕ) (bytes : Bytes book) (fine : Accepted press book sheet) (member : Member (contents_of book) (picture_of press sheet)) where
  abbrev f : Family
  f = (book_of book).family

  abbrev g : Sheet
  g = (sheet_of press sheet).sheet

  abbrev b : Contents
  b = contents_in book f

  abbrev area : ℕ
  area = g.size.rows * g.size.cols

  abbrev cells : List ℕ
  cells = take area g.cells

  abbrev names : ℕ → Name
  names x = get_or (names_in sheet g.colours) x []

  abbrev numbers : ℕ → ℕ
  numbers x = number_of book f.colours sheet g.colours x

  lies : SheetLies press sheet (sheet_of press sheet)
  lies = sheet-lies press sheet fine.sheet_fine

  ok : ColoursOk b.colours
  ok = (book-accepted book bytes fine.book_fine).keeps.colours_ok

  cells-long : length cells ≡ area
  cells-long = length-take-le area g.cells (omega (arith, lies.area_few, lies.cells_all))

  -- the name of each cell is that of a book colour
  cell-listed : (i : ℕ) → i < area → Memᴰ (names (get_or cells i 0)) b.colours
  cell-listed i h =
      let n = g.size.cols in
      let row : i / n < g.size.rows = (div-lt_iff_lt-mul lies.within.cols_some).1 h in
      let col : i % n < n = mod-lt i lies.within.cols_some in
      Memᴰ.cast (ap (λ (k : ℕ). names (get_or cells k 0)) (sym (div-add-mod' i n))) (cells-listed member (i / n) (i % n) row col)

  -- its number in the book is the number that the name has in the book's list
  cell-number : (i : ℕ) → i < area → numbers (get_or cells i 0) ≡ listed b.colours (names (get_or cells i 0))
  cell-number i h =
      let x = get_or cells i 0 in
      let low : x < g.colours.count = omega (arith, get_or-take area g.cells i 0 h, lies.cells_fit i h) in
      find-listed book f.colours _ (omega (arith, ok.few, names-count book f.colours)) ∙ ap (listed b.colours) (sym (name-at sheet g.colours x low))

  -- the numbers stand first in an array, whatever it held
  module _ (before : List ℕ) where
    abbrev left : Sheet
    left = (over before (sheet_of press sheet)).sheet

    left-first : take area left.cells ≡ cells
    left-first = ap (take area) (over-is before press sheet fine.sheet_fine) ∙ take_at cells (drop area before) area cells-long

    pub numbers-low : (i : ℕ) → i < area → get_or (numbers_of book f.colours sheet left) i 0 < most_colours
    numbers-low i h =
        let number =
        number_at book f.colours sheet left i h (over-long before press sheet fine.sheet_fine)
        ∙ ap numbers (over-at before press sheet fine.sheet_fine i h ∙ sym (get_or-take area g.cells i 0 h)) ∙ cell-number i h in
        omega (arith, number, (listed_found b.colours (names (get_or cells i 0)) (cell-listed i h)).0, ok.few)

    numbers-are : map numbers cells ≡ take area (numbers_of book f.colours sheet left)
    numbers-are =
        let long = length-map (take area left.cells) numbers ∙ ap length left-first ∙ cells-long in
        ap (map numbers) (sym left-first) ∙ sym (take_at (map numbers (take area left.cells)) (drop area left.cells) area long)

    pub showing-numbers : (c : ℕ) → showing press book c sheet ≡ how_many (λ (x : ℕ). eqb x c) (take area (numbers_of book f.colours sheet left))
    unfolding showing
    showing-numbers c =
        how_many-same (called? b c) (λ (x : ℕ). eqb x c) names numbers cells
        (λ i h. let low : i < area = omega (arith, cells-long) in
        called-number b ok.distinct (names (get_or cells i 0)) (cell-listed i low) c ∙ ap (λ (k : ℕ). eqb k c) (sym (cell-number i low)))
        ∙ ap (how_many (λ (x : ℕ). eqb x c)) numbers-are
