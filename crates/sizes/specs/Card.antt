-- The size card of a family, computed, and the sizes that it has.
use Rattle.std.specs.Prelude.{ℕ, suc, ◌+◌, ◌-◌, Bool, List, [], ◌∷◌}
use Rattle.std.specs.Int.Count.{ones}
use Rattle.names.specs.Pick.{pick, and_then}
use Rattle.books.specs.Contents.{Contents}
use Rattle.books.specs.Press.{greatest_of}
use Rattle.books.specs.Size.{within?, size_by as by}
use Rattle.names.specs.Counted.{each}
use Rattle.names.specs.Bits.{bits}
use Rattle.books.specs.declared.size.Size.{Size}
use Rattle.sizes.specs.Test.{has_size?}

-- whether the family has the size at a slot of the card: i + 1 rows and j + 1 columns
unfoldable pub sized? : Contents → ℕ → ℕ → Bool
sized? b i j = has_size? b b.start (by (suc i) (suc j))

-- number i of the card of a press of at most so many rows and columns
unfoldable pub card_row : Contents → ℕ → ℕ → ℕ
card_row b most i = bits most (sized? b i)

unfoldable pub card : Contents → ℕ → List ℕ
card b most = each most (λ i. card_row b most i ∷ [])

-- all sizes within the press that the family has, row by row
unfoldable pub sizes_of : Contents → ℕ → List Size
sizes_of b most = each most (λ i. each most (λ j. pick (sized? b i j) (by (suc i) (suc j) ∷ []) []))

-- how many bits of all numbers are set
unfoldable pub set_bits : List ℕ → ℕ
set_bits [] = 0
set_bits (x ∷ xs) = ones x + set_bits xs

-- whether the card of a family on a press has the size of m rows and n columns
unfoldable pub has_on : ℕ → Contents → ℕ → ℕ → Bool
has_on press b m n = and_then (within? (greatest_of press) m n) (λ _. sized? b (m - 1) (n - 1))
