-- The figures of a run of sheets of a press, each from the list of its sheets.
use Rattle.std.specs.Prelude.{ℕ, Bool, List, [], ◌∷◌, ◌++◌, map, eqb, length, get_or, replicate}
use Rattle.names.specs.Counted.{each}
use Rattle.names.specs.Name.{Name}
use Rattle.names.specs.Spelling.{most_colours}
use Rattle.books.specs.Lent.{contents_of}
use Rattle.books.specs.ContentsIn.{grid_in}
use Rattle.books.specs.Calls.{ticket_of}
use Rattle.books.specs.Decide.{called?}
use Rattle.books.specs.Grid.{Grid}
use Rattle.books.specs.Sheet.{sheet_of}
use Rattle.books.specs.Press.{greatest_of}
use Rattle.pieces.specs.Area.{whole, tree_size}
use Rattle.pieces.specs.Derivation.{derivation}
use Rattle.pieces.specs.Pieces.{total}
use Rattle.runs.specs.Lists.{those, how_many, added_up, any_in, least_in, greatest_in}
use Rattle.runs.specs.declared.figures.Figures.{Figures}

-- ── One sheet ──

-- the entries that the table of the greatest sheet of a press has, and the numbers of its tree: room enough for every sheet
abbrev pub work_room : ℕ → ℕ
work_room press = total (greatest_of press) (greatest_of press)

abbrev pub tree_room : ℕ → ℕ
tree_room press = tree_size (whole (greatest_of press) (greatest_of press))

-- the number that a derivation with room enough answers
unfoldable pub answer_of : ℕ → List ℕ → List ℕ → ℕ
answer_of press book sheet = (derivation press book sheet (replicate (work_room press) 0) (replicate (tree_room press) 0)).answer.number

-- the colour names of its cells, row by row
abbrev pub names_shown : Grid → List Name
names_shown g = map (λ k. get_or g.colours k []) g.cells

-- how many cells show the full name of a book colour; a number past the book's list has no name
unfoldable pub showing : ℕ → List ℕ → ℕ → List ℕ → ℕ
showing press book c sheet = how_many (called? (contents_of book) c) (names_shown (grid_in sheet (sheet_of press sheet).sheet))

-- ── The sheets of a run ──

-- those with an answer
abbrev pub answering : ℕ → List ℕ → ℕ → List ℕ → Bool
answering press book a sheet = eqb (answer_of press book sheet) a

-- the accepted sheets
unfoldable pub accepted : ℕ → List ℕ → List (List ℕ) → List (List ℕ)
accepted press book sheets = those (answering press book 0) sheets

-- how many got an answer
unfoldable pub got : ℕ → List ℕ → List (List ℕ) → ℕ → ℕ
got press book sheets a = how_many (answering press book a) sheets

-- the answers that a sheet can get: 0 to 8 and 11
abbrev pub answers_given : List ℕ
answers_given = 0 ∷ 1 ∷ 2 ∷ 3 ∷ 4 ∷ 5 ∷ 6 ∷ 7 ∷ 8 ∷ 11 ∷ []

abbrev pub answer_counts : ℕ
answer_counts = 10

-- the cells of a book colour, over accepted sheets only
unfoldable pub cells_of : ℕ → List ℕ → List (List ℕ) → ℕ → ℕ
cells_of press book sheets c = added_up (showing press book c) (accepted press book sheets)

-- the tickets of the accepted sheets
unfoldable pub tickets : ℕ → List ℕ → List (List ℕ) → List ℕ
tickets press book sheets = map (ticket_of press) (accepted press book sheets)

unfoldable pub figures_of : ℕ → List ℕ → List (List ℕ) → Figures
figures_of press book sheets =
    record {
      sheets = length sheets;
      answers = map (got press book sheets) answers_given;
      cells = each most_colours (λ c. cells_of press book sheets c ∷ []);
      any = any_in (tickets press book sheets);
      least = least_in (tickets press book sheets);
      greatest = greatest_in (tickets press book sheets);
    }

-- no sheets: every figure is 0
abbrev pub no_figures : Figures
no_figures = record { sheets = 0; answers = replicate answer_counts 0; cells = replicate most_colours 0; any = 0; least = 0; greatest = 0 }

-- the figures one after another, as the C host gets them
abbrev pub figures_long : ℕ
figures_long = 78

unfoldable pub in_a_row : Figures → List ℕ
in_a_row f = f.sheets ∷ (f.answers ++ (f.cells ++ (f.any ∷ f.least ∷ f.greatest ∷ [])))
