-- What masks give: the joins that fire at a cut, and the painters.
use Rattle.std.specs.Prelude.{ℕ, zero, suc, ◌+◌, Bool, false, List, eqb, leb, length, get_or}
use Rattle.std.specs.Int.Bits.{bit_and, bit_or}
use Rattle.names.specs.Pick.{pick}
use Rattle.books.specs.Keeps.{most_rules}
use Rattle.books.specs.declared.rule.Dir.{Dir}
use Rattle.pieces.specs.Masks.{seconds_from, heads_from, painters_from, colour_masks, all_masks, place_of, joins_of}
use Rattle.pieces.specs.declared.masks.Joins.{Joins}

-- one join at one cut: its head, where the entries l and r of the two parts have the motifs of its first and its second part
unfoldable pub firing : ℕ → ℕ → ℕ → ℕ → ℕ → ℕ
firing l r first second head = pick (eqb (bit_and l first) 0) 0 (pick (eqb (bit_and r second) 0) 0 head)

-- f 0 | f 1 | .. | f (n - 1)
unfoldable pub gathered : ℕ → (ℕ → ℕ) → ℕ
gathered zero f = 0
gathered (suc n) f = bit_or (gathered n f) (f n)

-- the join at a place of the three rows
abbrev pub fired_at : List ℕ → ℕ → ℕ → ℕ → ℕ
fired_at masks l r i = firing l r (get_or masks i 0) (get_or masks (seconds_from + i) 0) (get_or masks (heads_from + i) 0)

-- all joins of a direction at one cut
unfoldable pub joins_fired : List ℕ → Joins → Dir → ℕ → ℕ → ℕ
joins_fired masks j d l r = gathered (joins_of j d) (λ i. fired_at masks l r (place_of d i))

-- masks of this number, with so many joins, have a place for each
unfoldable pub fitting : ℕ → Joins → Bool
fitting masks j = pick (eqb masks all_masks) (pick (leb j.across most_rules) (leb j.down most_rules) false) false

-- the same for any masks: those that do not fit give nothing
unfoldable pub fire_of : List ℕ → Joins → Dir → ℕ → ℕ → ℕ
fire_of masks j d l r = pick (fitting (length masks) j) (joins_fired masks j d l r) 0

-- the painters of all colours
unfoldable pub painted_of : List ℕ → ℕ
painted_of masks = pick (eqb (length masks) all_masks) (gathered colour_masks (λ c. get_or masks (painters_from + c) 0)) 0
