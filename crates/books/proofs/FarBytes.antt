-- Reading the first 8,192 bytes of a file is enough: a book and a sheet of any press are read or refused within them, so that what follows changes nothing. Where a
-- longer file is cut off, both are refused, at the same fault: the cut is farther on than any reader looks.
use Prim.Native.Nat.{ℕ, ◌<◌, ◌≤◌}
use mathlib.Core.Path.{◌≡◌, sym, ap, ◌∙◌}
use mathlib.Core.Logic.{⊎_elim}
use mathlib.Core.Bool.{true}
use mathlib.Core.List.{List, ◌++◌}
use native.Mathlib.Omega.{arith}
use lib.ListN.{length, take, drop, take-append-drop}
use lib.Seq.{length-take-le, take_all}
use Rattle.names.proofs.Tests.{lt-or-le}
use Rattle.names.proofs.FarBytes.{names_in-far}
use Rattle.books.specs.Lent.{contents_of}
use Rattle.books.specs.ContentsIn.{grid_in}
use Rattle.books.specs.Book.{book_of}
use Rattle.books.specs.Sheet.{sheet_of}
use Rattle.books.specs.BookRead.{BookRead}
use Rattle.books.specs.SheetRead.{SheetRead}
use Rattle.books.proofs.Area.{room_enough}
use Rattle.books.proofs.ReadingBooks.{farthest_book, book-places}
use Rattle.books.proofs.ReadingSheets.{farthest, sheet-places}
use Rattle.books.proofs.FarBooks.{book-far}
use Rattle.books.proofs.FarSheets.{sheet-far}

-- what holds of a list and of one that is cut off far on holds of every list and its front
front_of {ℓ} : {A : Type ℓ} (f : List ℕ → A) (limit : ℕ) → ((t u : List ℕ) → limit < length t → f (t ++ u) ≡ f t)
    → (s : List ℕ) (n : ℕ) → limit < n → f (take n s) ≡ f s
front_of f limit far s n h =
    ⊎_elim
    (λ (l : n < length s).
    let long : length (take n s) ≡ n = length-take-le n s (omega arith) in
    sym (far (take n s) (drop n s) (omega arith)) ∙ ap f (take-append-drop n s))
    (λ (l : length s ≤ n). ap f (take_all n s l))
    (lt-or-le n (length s))

-- the contents of a book, and of a sheet, that is cut off far on
contents-far : (t u : List ℕ) → farthest_book < length t → contents_of (t ++ u) ≡ contents_of t
contents-far t u h = rw (book-far true t u h, names_in-far t u (book_of t).family.colours (book-places t))

grid-far : (press : ℕ) (t u : List ℕ) → farthest press < length t → grid_in (t ++ u) (sheet_of press (t ++ u)).sheet ≡ grid_in t (sheet_of press t).sheet
grid-far press t u h = rw (sheet-far press t u h, names_in-far t u (sheet_of press t).sheet.colours (sheet-places press t))

-- the first n bytes of a file are read as the file: the same fault, the same contents
pub record Enough (press : ℕ) (s : List ℕ) (n : ℕ) : Type 0 where
  pub book_fault : (book_of (take n s)).fault ≡ (book_of s).fault
  pub book_contents : contents_of (take n s) ≡ contents_of s
  pub sheet_fault : (sheet_of press (take n s)).fault ≡ (sheet_of press s).fault
  pub sheet_grid : grid_in (take n s) (sheet_of press (take n s)).sheet ≡ grid_in s (sheet_of press s).sheet

pub enough : (press : ℕ) (s : List ℕ) (n : ℕ) → 8192 ≤ n → Enough press s n
enough press s n h =
    record {
      book_fault = ap (λ (r : BookRead). r.fault) (front_of book_of farthest_book (book-far true) s n (omega arith));
      book_contents = front_of (λ (x : List ℕ). contents_of x) farthest_book contents-far s n (omega arith);
      sheet_fault = ap (λ (r : SheetRead). r.fault) (front_of (sheet_of press) (farthest press) (sheet-far press) s n (omega (arith, room_enough press)));
      sheet_grid = front_of (λ (x : List ℕ). grid_in x (sheet_of press x).sheet) (farthest press) (grid-far press) s n (omega (arith, room_enough press));
    }
