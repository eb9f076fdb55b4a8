-- The sheets and the combinations of the house book, byte by byte as docs/RULES.md shows or describes them.
use Rattle.std.specs.Prelude.{ℕ, List, [], ◌∷◌, ◌++◌}
use Rattle.books.specs.House.{slate, slate_c, slate_u, two_colours, house_rules}

-- the rules of the house book with the motifs raised by three
abbrev pub raised_rules : List ℕ
raised_rules = 3 ∷ 1 ∷ 3 ∷ 3 ∷ 3 ∷ 2 ∷ 4 ∷ 5 ∷ 4 ∷ 0 ∷ 0 ∷ 5 ∷ 0 ∷ 1 ∷ []

-- two rows of three columns, Slate C over Slate U; like all of these sheets it has the ticket 0
abbrev pub sheet_a : List ℕ
sheet_a = two_colours ++ (0 ∷ 2 ∷ 3 ∷ 0 ∷ 0 ∷ 0 ∷ 1 ∷ 1 ∷ 1 ∷ [])

-- sheet A with its two colours listed in the other order, and the cells renumbered
abbrev pub sheet_a_reordered : List ℕ
sheet_a_reordered = 2 ∷ 7 ∷ slate_u ++ (7 ∷ slate_c ++ (0 ∷ 2 ∷ 3 ∷ 1 ∷ 1 ∷ 1 ∷ 0 ∷ 0 ∷ 0 ∷ []))

-- sheet A with "Slate" for "Slate C"
abbrev pub sheet_a_slate : List ℕ
sheet_a_slate = 2 ∷ 5 ∷ slate ++ (7 ∷ slate_u ++ (0 ∷ 2 ∷ 3 ∷ 0 ∷ 0 ∷ 0 ∷ 1 ∷ 1 ∷ 1 ∷ []))

-- one cell of Slate C
abbrev pub one_cell : List ℕ
one_cell = two_colours ++ (0 ∷ 1 ∷ 1 ∷ 0 ∷ [])

-- 2 by 1, Slate C over Slate U
abbrev pub one_column : List ℕ
one_column = two_colours ++ (0 ∷ 2 ∷ 1 ∷ 0 ∷ 1 ∷ [])

-- 1 by 2, Slate C then Slate U
abbrev pub one_row : List ℕ
one_row = two_colours ++ (0 ∷ 1 ∷ 2 ∷ 0 ∷ 1 ∷ [])

-- the house book transposed: kinds 1 and 2 exchanged
abbrev pub transposed_book : List ℕ
transposed_book = two_colours ++ (3 ∷ 0 ∷ 4 ∷ 0 ∷ 2 ∷ 0 ∷ 0 ∷ 0 ∷ 1 ∷ 1 ∷ 2 ∷ 1 ∷ 0 ∷ 0 ∷ 2 ∷ 0 ∷ 1 ∷ [])

-- the house book beside itself: one rule more, for the new start motif 6
abbrev pub beside_book : List ℕ
beside_book = two_colours ++ (7 ∷ 6 ∷ 9 ∷ house_rules ++ (raised_rules ++ (6 ∷ 1 ∷ 0 ∷ 3 ∷ [])))

-- a run of the house book: the two rules of the start motif copied for the new start motif 3, and its join
abbrev pub run_book : List ℕ
run_book = two_colours ++ (4 ∷ 3 ∷ 7 ∷ house_rules ++ (3 ∷ 1 ∷ 0 ∷ 0 ∷ 3 ∷ 2 ∷ 1 ∷ 2 ∷ 3 ∷ 1 ∷ 0 ∷ 3 ∷ []))

-- either of the house book and itself: the rules of both start motifs copied for the new start motif 6
abbrev pub either_of_book : List ℕ
either_of_book =
    two_colours
    ++ (7 ∷ 6 ∷ 12 ∷ house_rules
    ++ (raised_rules ++ (6 ∷ 1 ∷ 0 ∷ 0 ∷ 6 ∷ 2 ∷ 1 ∷ 2 ∷ 6 ∷ 1 ∷ 3 ∷ 3 ∷ 6 ∷ 2 ∷ 4 ∷ 5 ∷ [])))
