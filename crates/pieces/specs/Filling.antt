-- The table of a sheet of m rows and n columns by what fires at a cut: a cell has the painters of its colour, and every other piece what its cuts give, by the
-- entries of the parts.
use Rattle.std.specs.Prelude.{ℕ, ◌+◌, ◌-◌, ◌*◌, List, [], ◌∷◌, ◌++◌, map, get_or, take, drop, set}
use Rattle.std.specs.Int.Bits.{bit_or}
use Rattle.books.specs.declared.rule.Dir.{Dir}
use Rattle.books.specs.declared.rule.Dir.TheVariants.{Across as across, Down as down}
use Rattle.pieces.specs.Pieces.{pieces, slot_of}
use Rattle.pieces.specs.Parts.{reach, first_part, rest_part}
use Rattle.pieces.specs.Masks.{painters_from}
use Rattle.pieces.specs.Firing.{gathered, joins_fired}
use Rattle.pieces.specs.declared.masks.Joins.{Joins}
use Rattle.pieces.specs.declared.piece.Piece.{Piece}

-- the entry of a piece
abbrev pub at : ℕ → ℕ → List ℕ → Piece → ℕ
at m n t p = get_or t (slot_of m n p) 0

-- what the cuts in one direction give of a thing that reaches so far, by the entries of the first parts and of the rests
unfoldable pub cuts_of : (Dir → ℕ → ℕ → ℕ) → (Dir → ℕ → ℕ) → (Dir → ℕ → ℕ) → Dir → ℕ → ℕ
cuts_of fire l r d reach = gathered (reach - 1) (λ k. fire d (l d (k + 1)) (r d (k + 1)))

abbrev pub piece_cuts : (Dir → ℕ → ℕ → ℕ) → ℕ → ℕ → List ℕ → Piece → Dir → ℕ
piece_cuts fire m n t p d = cuts_of fire (λ e k. at m n t (first_part e k p)) (λ e k. at m n t (rest_part e k p)) d (reach d p)

-- the entry that a piece of more than one cell has by those of its parts
abbrev pub entry_of : (Dir → ℕ → ℕ → ℕ) → ℕ → ℕ → List ℕ → Piece → ℕ
entry_of fire m n t p = bit_or (piece_cuts fire m n t p across) (piece_cuts fire m n t p down)

-- the entries of these pieces, one after the other
unfoldable pub joined_from : (Dir → ℕ → ℕ → ℕ) → ℕ → ℕ → List Piece → List ℕ → List ℕ
joined_from fire m n [] t = t
joined_from fire m n (p ∷ ps) t = joined_from fire m n ps (set t (slot_of m n p) (entry_of fire m n t p))

-- the cells stand first
unfoldable pub joined_by : (Dir → ℕ → ℕ → ℕ) → ℕ → ℕ → List ℕ → List ℕ
joined_by fire m n t = joined_from fire m n (drop (m * n) (pieces m n)) t

-- the painters of the first so many cells, by the numbers of their colours
abbrev pub painted_by : List ℕ → List ℕ → ℕ → List ℕ → List ℕ
painted_by masks cells count before = map (λ c. get_or masks (painters_from + c) 0) (take count cells) ++ drop count before

-- by masks, with the slice beyond the table as it was
unfoldable pub filled_by : List ℕ → Joins → List ℕ → ℕ → ℕ → List ℕ → List ℕ
filled_by masks j cells m n before = joined_by (joins_fired masks j) m n (painted_by masks cells (m * n) before)
