-- When a motif has a size: from smaller sizes and the rules alone. A colour rule, of a colour that the book lists, has 1 by 1; a join has
-- what its two motifs have on the two sides of a cut.
use Rattle.std.specs.Prelude.{ℕ, ◌<◌, ◌≡◌, eqb, ltb, length}
use Rattle.books.specs.Contents.{Contents}
use Rattle.books.specs.Search.{Cutting, Gives}
use Rattle.names.specs.Pick.{and_then}
use Rattle.books.specs.declared.size.Size.{Size}
use Rattle.sizes.specs.Size.{reach, first_part, rest_part}

abbrev pub sizes : Contents → Cutting Size
sizes b =
    record {
      reach = reach;
      first = first_part;
      rest = rest_part;
      Shows = λ c s. (s.rows ≡ 1) × (s.cols ≡ 1) × (c < length b.colours);
      shown = λ c s. and_then (eqb s.rows 1) (λ _. and_then (eqb s.cols 1) (λ _. ltb c (length b.colours)));
    }

abbrev pub HasSize : Contents → ℕ → Size → Type 0
HasSize b a s = Gives (sizes b) b.rules a s
