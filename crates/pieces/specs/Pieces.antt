-- The pieces of a sheet of m rows and n columns, in the order of the table, and the slot of each.
use Rattle.std.specs.Prelude.{ℕ, zero, suc, ◌+◌, ◌-◌, ◌*◌, ◌/◌, ◌≤◌, List, [], ◌∷◌}
use Rattle.names.specs.Counted.{each}
use Rattle.pieces.specs.declared.piece.Piece.{Piece}

abbrev pub piece : ℕ → ℕ → ℕ → ℕ → Piece
piece h w t l = record { height = h; width = w; top = t; left = l }

-- some rows and columns, all of them of the sheet
pub record Inside (m n : ℕ) (p : Piece) : Type 0 where
  pub tall : 1 ≤ p.height
  pub wide : 1 ≤ p.width
  pub low : p.top + p.height ≤ m
  pub right : p.left + p.width ≤ n

-- by height, then width, then top row, then left column, each rising
unfoldable pub pieces : ℕ → ℕ → List Piece
pieces m n = each m (λ u. each n (λ v. each (m - u) (λ t. each (n - v) (λ l. piece (suc u) (suc v) t l ∷ []))))

abbrev pub total : ℕ → ℕ → ℕ
total m n = m * (m + 1) / 2 * (n * (n + 1) / 2)

-- the stretches of at most k cells in a row of n cells: n of one cell, n - 1 of two, ..
unfoldable pub stretches : ℕ → ℕ → ℕ
stretches n zero = 0
stretches n (suc k) = stretches n k + (n - k)

-- the pieces before one of u + 1 rows and v + 1 columns at row t and column l: those of fewer rows, those of as many rows
-- and fewer columns, those of its size in the rows above, and those to its left
unfoldable pub slot_at : ℕ → ℕ → ℕ → ℕ → ℕ → ℕ → ℕ
slot_at m n u v t l = stretches m u * stretches n n + ((m - u) * stretches n v + (t * (n - v) + l))

unfoldable pub slot_of : ℕ → ℕ → Piece → ℕ
slot_of m n p = slot_at m n (p.height - 1) (p.width - 1) p.top p.left
