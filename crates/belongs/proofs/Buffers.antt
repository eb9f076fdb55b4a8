-- A buffer of 8,192 bytes is enough for a file: whatever lies beyond it, the answer and what is left in the slices are those of the whole book and the whole sheet, since
-- a derivation goes by their faults and their contents, and these are read from the front.
use Prim.Native.Nat.{ℕ, ◌≤◌}
use mathlib.Core.Path.{◌≡◌, refl}
use mathlib.Core.List.{List}
use lib.Dec.{eqb, ltb}
use lib.ListN.{take}
use Rattle.names.specs.Pick.{pick}
use Rattle.names.specs.Fault.{Fault}
use Rattle.books.specs.Answer.{plain, blaming}
use Rattle.books.specs.Book.{book_of}
use Rattle.books.specs.Contents.{Contents}
use Rattle.books.specs.Lent.{contents_of}
use Rattle.books.specs.ContentsIn.{grid_in}
use Rattle.books.specs.Grid.{Grid, picture}
use Rattle.books.specs.Press.{presses}
use Rattle.books.specs.Sheet.{sheet_of}
use Rattle.books.proofs.FarBytes.{enough}
use Rattle.pieces.specs.Derivation.{Derivation, leaving, roomed, derivation}

-- a derivation goes by its press, two faults and two contents
derived : ℕ → List ℕ → List ℕ → Fault → Contents → Fault → Grid → Derivation
derived press entries numbers f b e g =
    pick (ltb press presses)
    (pick (eqb f.number 0)
    (pick (eqb e.number 0) (roomed b (picture g) entries numbers) (leaving (blaming 2 e) entries numbers))
    (leaving (blaming 1 f) entries numbers))
    (leaving (plain 21) entries numbers)

derived-so : (press : ℕ) (book sheet entries numbers : List ℕ) → derivation press book sheet entries numbers
    ≡ derived press entries numbers (book_of book).fault (contents_of book) (sheet_of press sheet).fault (grid_in sheet (sheet_of press sheet).sheet)
unfolding derivation derived
derived-so press book sheet entries numbers = refl

pub buffers-enough : (press : ℕ) (book sheet entries numbers : List ℕ) (n m : ℕ) → 8192 ≤ n → 8192 ≤ m
    → derivation press (take n book) (take m sheet) entries numbers ≡ derivation press book sheet entries numbers
buffers-enough press book sheet entries numbers n m hn hm =
    let b = enough press book n hn in
    let s = enough press sheet m hm in
    rw (derived-so press (take n book) (take m sheet) entries numbers, derived-so press book sheet entries numbers, b.book_fault, b.book_contents, s.sheet_fault, s.sheet_grid)
