-- What the calls on one book or one sheet of a press answer, and the size of a sheet.
use Rattle.std.specs.Prelude.{ℕ, List}
use Rattle.books.specs.Answer.{blaming}
use Rattle.books.specs.Book.{book_of}
use Rattle.books.specs.ContentsIn.{grid_in}
use Rattle.books.specs.Grid.{Grid}
use Rattle.books.specs.Lent.{on_press}
use Rattle.books.specs.Sheet.{sheet_of}
use Rattle.books.specs.Size.{size_by}
use Rattle.books.specs.declared.answer.Answer.{Answer}
use Rattle.books.specs.declared.size.Size.{Size}

abbrev pub book_answer : List ℕ → Answer
book_answer s = blaming 1 (book_of s).fault

-- 21 comes before all else
abbrev pub sheet_answer : ℕ → List ℕ → Answer
sheet_answer press s = on_press press (λ a. a) (blaming 1 (sheet_of press s).fault)

-- the ticket of a sheet: a refused one has 0, and so has every one where there is no such press
abbrev pub ticket_of : ℕ → List ℕ → ℕ
ticket_of press s = (sheet_of press s).sheet.ticket

-- rows and columns, of the contents of a sheet
abbrev pub size_in : Grid → Size
size_in g = size_by g.rows g.cols

-- those of a lent sheet of a press; a refused one has no rows and no columns, and so has every one where there is no such press
abbrev pub size_of : ℕ → List ℕ → Size
size_of press s = size_in (grid_in s (sheet_of press s).sheet)
