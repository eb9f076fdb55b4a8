-- Entries of a table made anew: those of the pieces that have a cell, smaller pieces first, each from the entries of its parts as they then stand.
use Rattle.std.specs.Prelude.{ℕ, ◌+◌, ◌≤◌, ◌<◌, Bool, List, [], ◌∷◌, eqb, leb, ltb, length, set}
use Rattle.names.specs.Pick.{pick, and_then}
use Rattle.books.specs.declared.rule.Dir.{Dir}
use Rattle.books.specs.declared.size.Size.{Size}
use Rattle.pieces.specs.declared.masks.Joins.{Joins}
use Rattle.pieces.specs.declared.piece.Piece.{Piece}
use Rattle.pieces.specs.Pieces.{pieces, slot_of}
use Rattle.pieces.specs.Firing.{joins_fired, fitting}
use Rattle.pieces.specs.Filling.{entry_of}
use Rattle.pieces.specs.Largest.{fits_table}

-- ── The pieces ──

-- a piece has the cell
pub record HasCell (row column : ℕ) (q : Piece) : Type 0 where
  pub from_top : q.top ≤ row
  pub upto_bottom : row < q.top + q.height
  pub from_left : q.left ≤ column
  pub upto_right : column < q.left + q.width

-- the test for that
unfoldable pub spans? : ℕ → ℕ → ℕ → Bool
spans? from long cell = and_then (leb from cell) (λ _. ltb cell (from + long))

unfoldable pub has_cell? : ℕ → ℕ → Piece → Bool
has_cell? row column q = and_then (spans? q.top q.height row) (λ _. spans? q.left q.width column)

-- ── The entries ──

-- of these pieces those that are chosen get the entries due to them, one after the other
unfoldable pub refilled_from : (List ℕ → Piece → ℕ) → ℕ → ℕ → (Piece → Bool) → List Piece → List ℕ → List ℕ
refilled_from due m n chosen [] t = t
refilled_from due m n chosen (q ∷ qs) t = refilled_from due m n chosen qs (pick (chosen q) (set t (slot_of m n q) (due t q)) t)

-- the pieces that have the cell, in the order of the table: the parts of a piece stand before it
unfoldable pub refilled : (List ℕ → Piece → ℕ) → ℕ → ℕ → ℕ → ℕ → List ℕ → List ℕ
refilled due m n row column t = refilled_from due m n (has_cell? row column) (pieces m n) t

-- a cell is due its painters, and a larger piece what its cuts give
unfoldable pub due_by : (Dir → ℕ → ℕ → ℕ) → ℕ → ℕ → ℕ → List ℕ → Piece → ℕ
due_by fire paint m n t q = pick (eqb (q.height + q.width) 2) paint (entry_of fire m n t q)

-- ── By any masks, in any slice ──

-- a slice of so many entries has room for the table of a sheet, so many masks have a place for each join, and the sheet has the cell
unfoldable pub refills? : Size → ℕ → ℕ → Joins → ℕ → ℕ → Bool
refills? s entries masks j row column =
    and_then (fits_table s.rows s.cols entries) (λ _.
    and_then (fitting masks j) (λ _.
    and_then (ltb row s.rows) (λ _. ltb column s.cols)))

-- where it is not so, nothing is touched
unfoldable pub refilled_by : List ℕ → Joins → Size → ℕ → ℕ → ℕ → List ℕ → List ℕ
refilled_by masks j s row column paint t =
    pick (refills? s (length t) (length masks) j row column)
    (refilled (due_by (joins_fired masks j) paint s.rows s.cols) s.rows s.cols row column t)
    t
