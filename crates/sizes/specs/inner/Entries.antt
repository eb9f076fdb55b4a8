-- The motifs that have each size, as the entries that a table should have.
use Rattle.std.specs.Prelude.{ℕ, ◌≤◌, ◌<◌, ◌≡◌, List}
use Rattle.books.specs.Contents.{Contents}
use Rattle.names.specs.Bits.{bits}
use Rattle.books.specs.declared.size.Size.{Size}
use Rattle.sizes.specs.Test.{has_size?}
use Rattle.sizes.specs.Table.{slot, at}

-- the motifs that have a size
unfoldable pub entry : Contents → Size → ℕ
entry b s = bits b.motifs (λ a. has_size? b a s)

-- some rows, and some columns that the table has
pub record OfTable (n : ℕ) (s : Size) : Type 0 where
  pub rows_some : 1 ≤ s.rows
  pub cols_some : 1 ≤ s.cols
  pub cols_few : s.cols ≤ n

-- the entries before a slot ask for some entries, and an array with room for them
pub record SizesDue (end entries : ℕ) : Type 0 where
  pub some : 1 ≤ end
  pub room : end ≤ entries

-- the entries before a slot are those of their sizes
abbrev pub RightBefore : Contents → ℕ → ℕ → List ℕ → Type 0
RightBefore b n k t = (s : Size) → OfTable n s → slot n s < k → at n t s ≡ entry b s
