-- Pictures reversed and transposed, and what that makes of a set of pictures.
use Rattle.std.specs.Prelude.{◌-◌}
use Rattle.books.specs.Picture.{Picture, Same}
use Rattle.books.specs.declared.rule.Dir.TheVariants.{Across as across, Down as down}
use Rattle.books.specs.declared.rule.Dir.{Dir}

-- left and right exchanged, or top and bottom
abbrev pub reversed : Dir → Picture → Picture
reversed across p = record { rows = p.rows; cols = p.cols; cell = λ i j. p.cell i (p.cols - 1 - j) }
reversed down p = record { rows = p.rows; cols = p.cols; cell = λ i j. p.cell (p.rows - 1 - i) j }

-- rows and columns exchanged
abbrev pub transpose : Picture → Picture
transpose p = record { rows = p.cols; cols = p.rows; cell = λ i j. p.cell j i }

-- the pictures that t makes of the pictures of X
pub record Image (t : Picture → Picture) (X : Picture → Type 0) (r : Picture) : Type 0 where
  pub source : Picture
  pub source_in : X source
  pub image : Same (t source) r
