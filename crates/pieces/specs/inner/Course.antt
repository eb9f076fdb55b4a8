-- The course of the cuts of a piece: the slots of the two parts, carried from cut to cut by additions alone.
use Rattle.std.specs.Prelude.{ℕ, zero, suc, ◌+◌, ◌-◌, ◌*◌, ◌≤◌, ◌<◌, ◌^◌, ◌≡◌}
use Rattle.books.specs.declared.rule.Dir.TheVariants.{Across as across, Down as down}
use Rattle.books.specs.declared.rule.Dir.{Dir}
use Rattle.pieces.specs.Pieces.{stretches, slot_of}
use Rattle.pieces.specs.Parts.{reach, first_part}
use Rattle.pieces.specs.declared.piece.Piece.{Piece}
use Rattle.pieces.specs.Most.{most}
use Rattle.pieces.specs.inner.Room.{most_cells}
use Rattle.pieces.specs.declared.course.Course.{Course}
use Rattle.pieces.specs.declared.course.Span.{Span}

-- from one cut to the next
abbrev pub step : Course → Course
step c =
    record {
      cuts = c.cuts;
      first = c.first + c.rise;
      rise = c.rise - c.change;
      second = c.second + c.rise - c.both;
      both = c.both;
      change = c.change;
    }

unfoldable pub after : ℕ → Course → Course
after zero c = c
after (suc k) c = step (after k c)

-- a step in numbers that fit
pub record Steps (c : Course) : Type 0 where
  pub climbs : c.first + c.rise < 2 ^ 32
  pub slows : c.change ≤ c.rise
  pub lifts : c.second + c.rise < 2 ^ 32
  pub sinks : c.both ≤ c.second + c.rise

-- a course that stays in a table of so many entries
abbrev pub Runs : ℕ → Course → Type 0
Runs len c = (k : ℕ) → k < c.cuts → Steps (after k c) × ((after k c).first < len) × ((step (after k c)).second < len)

-- the cells of a sheet in a direction
abbrev pub cells : Dir → ℕ → ℕ → ℕ
cells across m n = n
cells down m n = m

-- how many pieces fewer the block of the next width has, or of the next height: by so much the steps change
abbrev pub change : Dir → ℕ → ℕ → Piece → ℕ
change across m n p = m - (p.height - 1)
change down m n p = stretches n n

-- by how much a step of the first part falls short of a whole block, ...
abbrev pub short : Dir → ℕ → Piece → ℕ
short across n p = p.top
short down n p = stretches n (p.width - 1)

-- ... and a step of the second part, which moves on by a column or a row
abbrev pub shorter : Dir → ℕ → Piece → ℕ
shorter across n p = p.top + 1
shorter down n p = stretches n p.width

-- what the code takes of a direction: these numbers, of which there is room for the first two
pub record Spans (d : Dir) (m n : ℕ) (p : Piece) (s : Span) : Type 0 where
  pub cells_are : s.cells ≡ cells d m n
  pub change_is : s.change ≡ change d m n p
  pub short_is : s.short ≡ short d n p
  pub shorter_is : s.shorter ≡ shorter d n p
  pub cells_few : s.cells ≤ most
  pub change_few : s.change ≤ most_cells

-- the steps of the first cut, ...
abbrev pub first_rise : Dir → ℕ → ℕ → Piece → ℕ
first_rise d m n p = cells d m n * change d m n p - short d n p

abbrev pub first_fall : Dir → ℕ → ℕ → Piece → ℕ
first_fall d m n p = (cells d m n + 2 - reach d p) * change d m n p - shorter d n p

-- ... and the course of the cuts of a piece, as it begins
unfoldable pub course_of : Dir → ℕ → ℕ → Piece → Course
course_of d m n p =
    record {
      cuts = reach d p - 1;
      first = slot_of m n (first_part d 1 p);
      rise = first_rise d m n p;
      second = slot_of m n p;
      both = first_rise d m n p + first_fall d m n p;
      change = change d m n p;
    }
