-- The edge of 16 cells, by computing: rows of one colour, under a book whose start is one cell or two of itself side by side.
use Prim.Native.Nat.{ℕ}
use mathlib.Core.Path.{◌≡◌, refl}
use mathlib.Core.List.{[], ◌∷◌}
use Rattle.names.specs.Name.{Name, same_name}
use Rattle.names.specs.Pick.{and_then, or_else}
use Rattle.books.specs.Answer.{plain}
use Rattle.books.specs.Contents.{Contents}
use Rattle.books.specs.Decide.{called?, derives?}
use Rattle.books.specs.Picture.{Picture}
use Rattle.books.specs.Search.{any_cut, fits_body, any_rule, gives_in}
use Rattle.books.specs.declared.rule.Body.TheVariants.{Colour, Across}
use Rattle.plain.specs.Outcome.{searched}

-- one colour, "r"
pub book : Contents
book =
    record {
      colours = (114 ∷ []) ∷ [];
      motifs = 1;
      start = 0;
      rules = record { head = 0; body = Colour 0 } ∷ record { head = 0; body = Across 0 0 } ∷ [];
    }

-- so many rows and columns, all cells of one colour
pub sheet : ℕ → ℕ → Name → Picture
sheet m n ink = record { rows = m; cols = n; cell = λ i j. ink }

pub record Examples : Type 0 where
  pub sixteen : searched book (sheet 1 16 (114 ∷ [])) ≡ plain 0
  pub seventeen : searched book (sheet 1 17 (114 ∷ [])) ≡ plain 20
  pub two_rows : searched book (sheet 2 8 (114 ∷ [])) ≡ plain 11
  pub other_colour : searched book (sheet 1 3 (98 ∷ [])) ≡ plain 11

pub examples : Examples
unfolding book sheet searched derives? gives_in any_rule fits_body any_cut and_then or_else called? same_name
examples = record { sixteen = refl; seventeen = refl; two_rows = refl; other_colour = refl }
