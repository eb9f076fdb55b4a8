-- The rows of the card as the code writes them, from the table of sizes.
use Rattle.std.specs.Prelude.{ℕ, ◌*◌, ◌≤◌, ◌<◌, ◌≡◌, List, [], ◌∷◌, ◌++◌, eqb, length, get_or, take, drop}
use Rattle.names.specs.Counted.{each}
use Rattle.names.specs.Bits.{bit, bits}
use Rattle.books.specs.Keeps.{most_motifs}
use Rattle.sizes.specs.Card.{set_bits}

-- a number of the card has so many bits
abbrev pub row_bits : ℕ
row_bits = 32

-- what writing the rows of a card of some, and at most so many, rows and columns asks for: entries, a motif that an entry has, and room
pub record CardDue (most entries start numbers : ℕ) : Type 0 where
  pub some : 1 ≤ most
  pub few : most ≤ row_bits
  pub entries_all : most * most ≤ entries
  pub start_fits : start < most_motifs
  pub room_enough : most ≤ numbers

-- bit j is that of motif a in the j-th of some entries
unfoldable pub row_of : List ℕ → ℕ → ℕ
row_of entries a = bits (length entries) (λ j. eqb (bit (get_or entries j 0) a) 1)

-- the entries of row i, of n entries each
abbrev pub row_in : List ℕ → ℕ → ℕ → List ℕ
row_in t n i = take n (drop (i * n) t)

-- the first k rows
unfoldable pub rows_of : List ℕ → ℕ → ℕ → ℕ → List ℕ
rows_of t n a k = each k (λ i. row_of (row_in t n i) a ∷ [])

-- the rows stand at the front of a slice, and their set bits are counted
pub record RowsWrote (rows before : List ℕ) (count : ℕ) (after : List ℕ) : Type 0 where
  pub counted : count ≡ set_bits rows
  pub written : after ≡ rows ++ drop (length rows) before
