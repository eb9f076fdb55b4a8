-- The rules of a book as masks, in which a motif is worth 2 to the power of its number: how they stand in one row of numbers, and what splitting rules
-- leaves there. The code's constants have the same names.
use Rattle.std.specs.Prelude.{ℕ, ◌+◌, ◌-◌, ◌*◌, ◌^◌, List, [], ◌∷◌, ◌++◌, eqb, length, get_or, take, set, replicate}
use Rattle.std.specs.Int.Bits.{bit_or}
use Rattle.names.specs.Pick.{pick}
use Rattle.names.specs.Spelling.{most_colours}
use Rattle.books.specs.Keeps.{most_rules}
use Rattle.books.specs.declared.rule.Dir.{Dir}
use Rattle.books.specs.declared.rule.Dir.TheVariants.{Across as across, Down as down}
use Rattle.books.specs.declared.rule.Rule.{Rule}
use Rattle.books.specs.declared.rule.Body.{Body}
use Rattle.books.specs.declared.rule.Body.TheVariants.{Colour, Across, Down}
use Rattle.pieces.specs.declared.masks.Joins.{Joins}

-- ── The layout ──

-- the joins stand in three rows: their first parts, their second parts and their heads
abbrev pub seconds_from : ℕ
seconds_from = most_rules

abbrev pub heads_from : ℕ
heads_from = 2 * most_rules

abbrev pub join_masks : ℕ
join_masks = 3 * most_rules

-- behind them stand the painters, the heads of the rules of each colour: the book's, and one mask for all that it lacks
abbrev pub painters_from : ℕ
painters_from = join_masks

abbrev pub colour_masks : ℕ
colour_masks = most_colours + 1

abbrev pub all_masks : ℕ
all_masks = painters_from + colour_masks

-- in each row the i-th across join stands at i, and the i-th down join as far before the end
abbrev pub place_of : Dir → ℕ → ℕ
place_of across i = i
place_of down i = most_rules - 1 - i

abbrev pub joins_of : Joins → Dir → ℕ
joins_of j across = j.across
joins_of j down = j.down

-- ── Splitting ──

-- masks, and how many joins stand there
pub record Masked : Type 0 where
  pub masks : List ℕ
  pub joins : Joins

abbrev pub masked : List ℕ → Joins → Masked
masked masks j = record { masks = masks; joins = j }

abbrev pub no_joins : Joins
no_joins = record { across = 0; down = 0 }

abbrev pub one_join_more : Joins → Dir → Joins
one_join_more j across = record { across = j.across + 1; down = j.down }
one_join_more j down = record { across = j.across; down = j.down + 1 }

-- the masks of a join at a place of the three rows
abbrev pub put_at : List ℕ → ℕ → ℕ → ℕ → ℕ → List ℕ
put_at masks at head first second = set (set (set masks at (2 ^ first)) (seconds_from + at) (2 ^ second)) (heads_from + at) (2 ^ head)

abbrev pub put_join : Masked → Dir → ℕ → ℕ → ℕ → Masked
put_join s d head first second = masked (put_at s.masks (place_of d (joins_of s.joins d)) head first second) (one_join_more s.joins d)

-- the head of a colour rule joins the other painters of its colour
abbrev pub put_painter : Masked → ℕ → ℕ → Masked
put_painter s head c = masked (set s.masks (painters_from + c) (bit_or (get_or s.masks (painters_from + c) 0) (2 ^ head))) s.joins

abbrev pub put_body : Masked → ℕ → Body → Masked
put_body s head (Colour c) = put_painter s head c
put_body s head (Across l r) = put_join s across head l r
put_body s head (Down u v) = put_join s down head u v

unfoldable pub split_from : List Rule → Masked → Masked
split_from [] s = s
split_from (r ∷ rs) s = split_from rs (put_body s r.head r.body)

-- no painters; of the three rows only what is counted is read
abbrev pub cleared : List ℕ → List ℕ
cleared masks = take painters_from masks ++ replicate colour_masks 0

-- the rules in order, over whatever stood there
unfoldable pub split_of : List Rule → List ℕ → Masked
split_of rules masks = split_from rules (masked (cleared masks) no_joins)

-- where the book has no fault and the slice has room for the masks alone; else the slice stays as it was
unfoldable pub laid : ℕ → List Rule → List ℕ → Masked
laid fault rules masks = pick (eqb fault 0) (pick (eqb (length masks) all_masks) (split_of rules masks) (masked masks no_joins)) (masked masks no_joins)
