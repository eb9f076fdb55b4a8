-- The house book, byte by byte as docs/RULES.md shows it, and what it says.
use Rattle.std.specs.Prelude.{ℕ, List, [], ◌∷◌, ◌++◌}
use Rattle.names.specs.Name.{Name}
use Rattle.books.specs.Contents.{Contents}
use Rattle.books.specs.declared.rule.Body.TheVariants.{Colour, Across, Down}

-- "Slate", "Slate C" and "Slate U"
abbrev pub slate : Name
slate = 83 ∷ 108 ∷ 97 ∷ 116 ∷ 101 ∷ []

abbrev pub slate_c : Name
slate_c = slate ++ (32 ∷ 67 ∷ [])

abbrev pub slate_u : Name
slate_u = slate ++ (32 ∷ 85 ∷ [])

-- the colour list of the house book, which most of its sheets have too
abbrev pub two_colours : List ℕ
two_colours = 2 ∷ 7 ∷ slate_c ++ (7 ∷ slate_u)

-- its four rules
abbrev pub house_rules : List ℕ
house_rules = 0 ∷ 1 ∷ 0 ∷ 0 ∷ 0 ∷ 2 ∷ 1 ∷ 2 ∷ 1 ∷ 0 ∷ 0 ∷ 2 ∷ 0 ∷ 1 ∷ []

-- 34 bytes: the colours; three motifs, the start motif 0 and four rules; the rules
abbrev pub house_book : List ℕ
house_book = two_colours ++ (3 ∷ 0 ∷ 4 ∷ house_rules)

-- what the house book says
abbrev pub house_contents : Contents
house_contents =
    record {
      colours = slate_c ∷ slate_u ∷ [];
      motifs = 3;
      start = 0;
      rules =
          record { head = 0; body = Across 0 0 } ∷ record { head = 0; body = Down 1 2 }
          ∷ record { head = 1; body = Colour 0 } ∷ record { head = 2; body = Colour 1 } ∷ [];
    }
