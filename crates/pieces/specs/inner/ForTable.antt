-- What filling a table asks of the masks and of the cells.
use Rattle.std.specs.Prelude.{ℕ, ◌*◌, ◌≤◌, ◌<◌, ◌≡◌, List, length, get_or}
use Rattle.books.specs.Keeps.{most_rules}
use Rattle.books.specs.Size.{Within}
use Rattle.books.specs.SheetRead.{SheetFigures}
use Rattle.books.specs.declared.size.Size.{Size}
use Rattle.pieces.specs.Most.{most}
use Rattle.pieces.specs.Masks.{colour_masks, all_masks}
use Rattle.pieces.specs.declared.masks.Joins.{Joins}
use Rattle.pieces.specs.inner.Seen.{Tabled}

-- so many masks, with a place for each join
pub record MasksFit (masks : ℕ) (j : Joins) : Type 0 where
  pub all : masks ≡ all_masks
  pub across_few : j.across ≤ most_rules
  pub down_few : j.down ≤ most_rules

-- so many cells, with painters for each one's colour
pub record Paintable (cells : List ℕ) (count : ℕ) : Type 0 where
  pub all : count ≤ length cells
  pub low : (i : ℕ) → i < count → get_or cells i 0 < colour_masks

-- what painting so many cells asks for: a table that has their entries, and the cells
pub record PaintDue (cells : List ℕ) (count entries : ℕ) : Type 0 where
  pub room : count ≤ entries
  pub painted : Paintable cells count

-- what filling a table from the cells on asks for
pub record FillDue (s : Size) (work cells : List ℕ) : Type 0 where
  pub tabled : Tabled s work
  pub painted : Paintable cells (s.rows * s.cols)

-- the figures of a sheet with no fault, and the numbers of its cells
pub record Shows (g : SheetFigures) (cells : List ℕ) : Type 0 where
  pub sizes : Within most g.size.rows g.size.cols
  pub painted : Paintable cells (g.size.rows * g.size.cols)
