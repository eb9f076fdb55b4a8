-- The largest piece of a sheet that a test accepts: of greatest area, and of the same area the earliest in the table.
use Rattle.std.specs.Prelude.{ℕ, Bool, List, [], ◌∷◌, ltb, leb, length, get_or}
use Rattle.names.specs.Pick.{pick, and_then}
use Rattle.books.specs.Size.{within?}
use Rattle.pieces.specs.declared.piece.Piece.{Piece}
use Rattle.pieces.specs.Pieces.{piece, pieces, total, slot_of}
use Rattle.pieces.specs.Area.{area}
use Rattle.names.specs.Bits.{is_set}
use Rattle.pieces.specs.Most.{most}

-- no piece has no rows
abbrev pub no_piece : Piece
no_piece = piece 0 0 0 0

-- of the largest so far and another, which is taken only where it is larger
unfoldable pub larger : (Piece → Bool) → Piece → Piece → Piece
larger test best q = pick (and_then (ltb (area best) (area q)) (λ _. test q)) q best

unfoldable pub largest_from : (Piece → Bool) → Piece → List Piece → Piece
largest_from test best [] = best
largest_from test best (q ∷ qs) = largest_from test (larger test best q) qs

-- the largest piece of a sheet of m rows and n columns that the test accepts, or no piece
unfoldable pub largest_of : (Piece → Bool) → ℕ → ℕ → Piece
largest_of test m n = largest_from test no_piece (pieces m n)

-- whether a slice has bit a set at the slot of a piece
unfoldable pub marked : ℕ → ℕ → List ℕ → ℕ → Piece → Bool
marked m n work a q = is_set (get_or work (slot_of m n q) 0) a

-- whether a slice of so many entries has room for the table of a sheet that the code's numbers have room for
unfoldable pub fits_table : ℕ → ℕ → ℕ → Bool
fits_table m n entries = and_then (within? most m n) (λ _. leb (total m n) entries)

-- the largest piece at which a slice has bit a set, or no piece where there is none, or no such table
unfoldable pub largest_in : List ℕ → ℕ → ℕ → ℕ → Piece
largest_in work a m n = pick (fits_table m n (length work)) (largest_of (marked m n work a) m n) no_piece
