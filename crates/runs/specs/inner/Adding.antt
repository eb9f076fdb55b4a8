-- How the figures, one after another in a slice, change from sheet to sheet. The code's constants have the same names.
use Rattle.std.specs.Prelude.{ℕ, ◌+◌, ◌*◌, ◌^◌, ◌≤◌, ◌<◌, min, max, ◌≡◌, List, [], ◌∷◌, eqb, length, get_or, set, take, drop}
use Rattle.names.specs.Pick.{pick}
use Rattle.names.specs.Spelling.{most_colours}
use Rattle.books.specs.Size.{room}
use Rattle.books.specs.declared.size.Size.{Size}
use Rattle.pieces.specs.declared.asking.Asked.{Asked}
use Rattle.runs.specs.Figures.{answer_counts, figures_long}
use Rattle.runs.specs.declared.figures.Figures.{Figures}

abbrev pub answers_from : ℕ
answers_from = 1

abbrev pub cells_from : ℕ
cells_from = answers_from + answer_counts

abbrev pub any_at : ℕ
any_at = cells_from + most_colours

abbrev pub least_at : ℕ
least_at = any_at + 1

abbrev pub greatest_at : ℕ
greatest_at = any_at + 2

-- the figures that stand in a slice
unfoldable pub standing : List ℕ → Figures
standing f =
    record {
      sheets = get_or f 0 0;
      answers = take answer_counts (drop answers_from f);
      cells = take most_colours (drop cells_from f);
      any = get_or f any_at 0;
      least = get_or f least_at 0;
      greatest = get_or f greatest_at 0;
    }

-- one more at a place
unfoldable pub one_more : List ℕ → ℕ → List ℕ
one_more f i = set f i (get_or f i 0 + 1)

-- which of the ten counts an answer has: 11 stands behind 0 to 8
unfoldable pub count_place : ℕ → ℕ
count_place a = pick (eqb a 11) 9 a

-- a sheet more, with its answer
unfoldable pub answered : List ℕ → ℕ → List ℕ
answered f a = one_more (one_more f 0) (answers_from + count_place a)

-- a cell more of each of these colours
unfoldable pub coloured : List ℕ → List ℕ → List ℕ
coloured f [] = f
coloured f (c ∷ cs) = coloured (one_more f (cells_from + c)) cs

-- a ticket more: the first is the least so far
unfoldable pub least_with : ℕ → ℕ → ℕ → ℕ
least_with any least ticket = pick (eqb any 0) ticket (min least ticket)

unfoldable pub ticketed : List ℕ → ℕ → List ℕ
ticketed f t = set (set (set f least_at (least_with (get_or f any_at 0) (get_or f least_at 0) t)) greatest_at (max (get_or f greatest_at 0) t)) any_at 1

-- ── What is asked for ──

-- a slice holds the figures, and each of their counts has room for so many more
pub record Spare (n : ℕ) (f : List ℕ) : Type 0 where
  pub long : figures_long ≤ length f
  pub more : (i : ℕ) → i < any_at → get_or f i 0 + n < 2 ^ 32

-- an answer that is counted
pub record Answerable (answer : ℕ) (f : List ℕ) : Type 0 where
  pub counted : count_place answer < answer_counts
  pub spare : Spare 1 f

-- cells, each of a colour that is counted
pub record Colourable (cells f : List ℕ) : Type 0 where
  pub low : (i : ℕ) → i < length cells → get_or cells i 0 < most_colours
  pub spare : Spare (length cells) f

-- ── A sheet that was asked ──

abbrev pub area_of : Size → ℕ
area_of z = z.rows * z.cols

-- its answer, and where it is accepted its cells and its ticket
unfoldable pub with_asked : List ℕ → Asked → List ℕ → List ℕ
with_asked f r cells =
    pick (eqb r.answer.number 0)
    (ticketed (coloured (answered f r.answer.number) (take (area_of r.size) cells)) r.ticket)
    (answered f r.answer.number)

-- what it can add to a count: itself and its answer, and its cells
abbrev pub most_added : ℕ
most_added = room + 2

-- the figures have room for it
pub record Addable (r : Asked) (cells f : List ℕ) : Type 0 where
  pub counted : count_place r.answer.number < answer_counts
  pub spare : Spare most_added f
  pub area_few : area_of r.size ≤ room
  pub cells_all : area_of r.size ≤ length cells
  pub cells_low : r.answer.number ≡ 0 → (i : ℕ) → i < area_of r.size → get_or cells i 0 < most_colours
  pub ticket_fits : r.ticket < 2 ^ 32
