-- What the plain engine answers on a sheet of a press: 21 where there is no such press, then the book's fault, then the sheet's, then 20 for more than 16
-- cells; else 0 where the start motif derives the sheet, and 11 where it does not.
use Rattle.std.specs.Prelude.{ℕ, ◌*◌, List, ltb}
use Rattle.names.specs.Pick.{pick}
use Rattle.books.specs.Answer.{plain}
use Rattle.books.specs.Contents.{Contents}
use Rattle.books.specs.Decide.{derives?}
use Rattle.books.specs.Lent.{lent_both}
use Rattle.books.specs.Picture.{Picture}
use Rattle.books.specs.declared.answer.Answer.{Answer}

-- the most cells that it takes
abbrev pub most_cells : ℕ
most_cells = 16

abbrev pub cells : Picture → ℕ
cells p = p.rows * p.cols

unfoldable pub searched : Contents → Picture → Answer
searched b p = pick (ltb most_cells (cells p)) (plain 20) (pick (derives? b b.start p) (plain 0) (plain 11))

unfoldable pub plain_answer : ℕ → List ℕ → List ℕ → Answer
plain_answer press book sheet = lent_both press book sheet (λ a. a) searched
