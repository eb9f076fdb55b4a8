-- A book and a sheet as they are lent, for a press: 21 where there is no such press, before all else; what refuses an input is blamed on the one that it is,
-- and what they hold goes on.
use Rattle.std.specs.Prelude.{ℕ, ◌≡◌, Bool, true, List, eqb, ltb}
use Rattle.names.specs.Pick.{pick}
use Rattle.books.specs.Answer.{plain, blaming}
use Rattle.books.specs.Book.{book_by, book_of}
use Rattle.books.specs.Contents.{Contents}
use Rattle.books.specs.ContentsIn.{contents_in, grid_in}
use Rattle.books.specs.Grid.{picture}
use Rattle.books.specs.Picture.{Picture}
use Rattle.books.specs.Press.{presses}
use Rattle.books.specs.Sheet.{sheet_of}
use Rattle.books.specs.declared.answer.Answer.{Answer}

-- what a lent book says, and what a lent sheet of a press shows
abbrev pub contents_by : Bool → List ℕ → Contents
contents_by strict book = contents_in book (book_by strict book).family

abbrev pub contents_of : List ℕ → Contents
contents_of = contents_by true

abbrev pub picture_of : ℕ → List ℕ → Picture
picture_of press sheet = picture (grid_in sheet (sheet_of press sheet).sheet)

-- the book is accepted
abbrev pub Fine : List ℕ → Type 0
Fine book = (book_of book).fault.number ≡ 0

-- both are
pub record Accepted (press : ℕ) (book sheet : List ℕ) : Type 0 where
  pub book_fine : Fine book
  pub sheet_fine : (sheet_of press sheet).fault.number ≡ 0

-- 21 goes the one way where there is no such press, and what is asked of the press the other
abbrev pub on_press {ℓ} : {A : Type ℓ} → ℕ → (Answer → A) → A → A
on_press press refuse go = pick (ltb press presses) go (refuse (plain 21))

-- the answer of a refused book goes the one way, and the contents of an accepted one the other
abbrev pub lent_book_by {ℓ} : {A : Type ℓ} → Bool → ℕ → List ℕ → (Answer → A) → (Contents → A) → A
lent_book_by strict input book refuse go =
    pick (eqb (book_by strict book).fault.number 0) (go (contents_by strict book)) (refuse (blaming input (book_by strict book).fault))

abbrev pub lent_book {ℓ} : {A : Type ℓ} → ℕ → List ℕ → (Answer → A) → (Contents → A) → A
lent_book = lent_book_by true

-- the same of a sheet and its picture
abbrev pub lent_sheet {ℓ} : {A : Type ℓ} → ℕ → ℕ → List ℕ → (Answer → A) → (Picture → A) → A
lent_sheet press input sheet refuse go =
    pick (eqb (sheet_of press sheet).fault.number 0) (go (picture_of press sheet)) (refuse (blaming input (sheet_of press sheet).fault))

-- a book and a sheet of a press: 21, then the book's fault, then the sheet's
abbrev pub lent_both {ℓ} : {A : Type ℓ} → ℕ → List ℕ → List ℕ → (Answer → A) → (Contents → Picture → A) → A
lent_both press book sheet refuse go = on_press press refuse (lent_book 1 book refuse (λ b. lent_sheet press 2 sheet refuse (λ p. go b p)))
