-- A call ends with 21 where there is no such press, and a lent book or sheet in its fault, or goes on with what it holds: what holds of each way holds of the
-- call. Each way is read off the press or the fault's number.
use Prim.Native.Nat.{ℕ}
use mathlib.Core.Path.{◌≡◌}
use mathlib.Core.Bool.{Bool, false}
use mathlib.Core.List.{List}
use native.Mathlib.Omega.{arith}
use borrow.Author.Tests.{eq-eqb, ne_eqb, eqb-true, eqb-false, lt-ltb, le-ltb, ltb-true, ltb-false}
use lib.Dec.{eqb, ltb}
use Rattle.names.specs.Fault.{Fault}
use Rattle.names.proofs.Picking.{pick_ind}
use Rattle.books.specs.Answer.{answer, plain, blaming}
use Rattle.books.specs.Book.{book_by, book_of}
use Rattle.books.specs.Contents.{Contents}
use Rattle.books.specs.Lent.{contents_by, contents_of, picture_of, Fine, Accepted, on_press, lent_book_by, lent_book, lent_both}
use Rattle.books.specs.Picture.{Picture}
use Rattle.books.specs.Press.{presses, IsPress}
use Rattle.books.specs.Sheet.{sheet_of}
use Rattle.books.specs.declared.answer.Answer.{Answer}
use Rattle.books.proofs.ReadingSheets.{sheet-press}

-- A fault that is one is blamed as it is.
blamed : (P : Answer → Type 0) (input : ℕ) (f : Fault) → eqb f.number 0 ≡ false → P (answer f.number input f.place) → P (blaming input f)
blamed P input f e x = rw e x

pub blamed_is : (input : ℕ) (f : Fault) → (f.number ≡ 0 → ⊥) → blaming input f ≡ answer f.number input f.place
blamed_is input f n = simp (ne_eqb f.number 0 n)

-- Both are accepted on a press that there is.
pub accepted-press : {press : ℕ} {book sheet : List ℕ} → Accepted press book sheet → IsPress press
accepted-press {press} {sheet = sheet} fine = sheet-press press sheet fine.sheet_fine

-- The ways in which a press, a book and a sheet are refused, and the answer of each.
pub data Refusal (press : ℕ) (book sheet : List ℕ) : Answer → Type 0 where
  no_press : (IsPress press → ⊥) → Refusal press book sheet (plain 21)
  in_book : IsPress press → (Fine book → ⊥) → Refusal press book sheet (blaming 1 (book_of book).fault)
  in_sheet : IsPress press → Fine book → ((sheet_of press sheet).fault.number ≡ 0 → ⊥) → Refusal press book sheet (blaming 2 (sheet_of press sheet).fault)

-- ── Induction over the ways ──

module _ {A : Type 0} (P : A → Type 0) (refuse : Answer → A) where
  pub press-ends : (press : ℕ) (go : A) → ((IsPress press → ⊥) → P (refuse (plain 21))) → (IsPress press → P go) → P (on_press press refuse go)
  press-ends press go none some =
      pick_ind P (ltb press presses) go (refuse (plain 21))
      (λ e. some (ltb-true press presses e))
      (λ e. none (λ h. omega (arith, ltb-false press presses e)))

  -- of a book alone, by either reader
  pub book-ends : (strict : Bool) (input : ℕ) (book : List ℕ) (go : Contents → A)
      → (((book_by strict book).fault.number ≡ 0 → ⊥) → P (refuse (answer (book_by strict book).fault.number input (book_by strict book).fault.place)))
      → ((book_by strict book).fault.number ≡ 0 → P (go (contents_by strict book))) → P (lent_book_by strict input book refuse go)
  book-ends strict input book go faulty fine =
      let f = (book_by strict book).fault in
      pick_ind P (eqb f.number 0) (go (contents_by strict book)) (refuse (blaming input f))
      (λ e. fine (eqb-true f.number 0 e))
      (λ e. blamed (λ (a : Answer). P (refuse a)) input f e (faulty (eqb-false f.number 0 e)))

  -- of a press, a book and a sheet
  pub both_end : (press : ℕ) (book sheet : List ℕ) (go : Contents → Picture → A) → ((a : Answer) → Refusal press book sheet a → P (refuse a))
      → (Accepted press book sheet → P (go (contents_of book) (picture_of press sheet))) → P (lent_both press book sheet refuse go)
  both_end press book sheet go refused accepted =
      press-ends press _ (λ none. refused _ (no_press none)) (λ is.
      pick_ind P (eqb (book_of book).fault.number 0) _ _
      (λ e. let z = eqb-true (book_of book).fault.number 0 e in
      pick_ind P (eqb (sheet_of press sheet).fault.number 0) _ _
      (λ f. accepted (record { book_fine = z; sheet_fine = eqb-true (sheet_of press sheet).fault.number 0 f }))
      (λ f. refused _ (in_sheet is z (eqb-false (sheet_of press sheet).fault.number 0 f))))
      (λ e. refused _ (in_book is (eqb-false (book_of book).fault.number 0 e))))

-- ── The order of the answers ──

module _ {A : Type 0} (press : ℕ) (refuse : Answer → A) where
  pub no-press-first : (go : A) → (IsPress press → ⊥) → on_press press refuse go ≡ refuse (plain 21)
  no-press-first go n = simp (le-ltb press presses (omega arith))

  pub on_press_lem : (go : A) → IsPress press → on_press press refuse go ≡ go
  on_press_lem go h = simp (lt-ltb press presses h)

  module _ (book sheet : List ℕ) (go : Contents → Picture → A) where
    pub refused-so : {a : Answer} → Refusal press book sheet a → lent_both press book sheet refuse go ≡ refuse a
    refused-so (no_press none) = no-press-first _ none
    refused-so (in_book is n) = simp (lt-ltb press presses is, ne_eqb (book_of book).fault.number 0 n)
    refused-so (in_sheet is z n) = simp (lt-ltb press presses is, eq-eqb (book_of book).fault.number 0 z, ne_eqb (sheet_of press sheet).fault.number 0 n)

    pub both-go-on : Accepted press book sheet → lent_both press book sheet refuse go ≡ go (contents_of book) (picture_of press sheet)
    both-go-on fine =
        let z = fine.sheet_fine in
        simp (lt-ltb press presses (sheet-press press sheet z), eq-eqb (book_of book).fault.number 0 fine.book_fine, eq-eqb (sheet_of press sheet).fault.number 0 z)

    -- what a call makes of a book and an accepted sheet, it makes of the sheet's picture
    pub by-picture : (sheet_of press sheet).fault.number ≡ 0 → lent_both press book sheet refuse go ≡ lent_book 1 book refuse (λ b. go b (picture_of press sheet))
    by-picture z = simp (lt-ltb press presses (sheet-press press sheet z), eq-eqb (sheet_of press sheet).fault.number 0 z)
