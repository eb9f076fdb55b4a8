-- Whether a motif derives a picture, computed: the plain search, of pictures.
use Rattle.std.specs.Prelude.{ℕ, ◌+◌, ◌≡◌, Bool, eqb, ltb, length}
use Rattle.names.specs.Name.{Name, same_name}
use Rattle.books.specs.Contents.{Contents, Called, name}
use Rattle.books.specs.Picture.{Picture, size, first, rest}
use Rattle.books.specs.Search.{Cutting, gives_in}
use Rattle.names.specs.Pick.{and_then}

-- whether the colour with a number has a name
unfoldable pub called? : Contents → ℕ → Name → Bool
called? b c n = and_then (ltb c (length b.colours)) (λ _. same_name n (name b c))

abbrev pub pictures : Contents → Cutting Picture
pictures b =
    record {
      reach = size;
      first = first;
      rest = rest;
      Shows = λ c p. (p.rows ≡ 1) × (p.cols ≡ 1) × Called b c (p.cell 0 0);
      shown = λ c p. and_then (eqb p.rows 1) (λ _. and_then (eqb p.cols 1) (λ _. called? b c (p.cell 0 0)));
    }

-- a cut leaves fewer rows and columns in all, so that their number bounds the depth
unfoldable pub derives? : Contents → ℕ → Picture → Bool
derives? b a p = gives_in (pictures b) b.rules (p.rows + p.cols) a p
