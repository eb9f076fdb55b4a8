-- The size of a sheet, and what reading it finds: rows, then columns, each from 1 to the most that a sheet may have.
use Rattle.std.specs.Prelude.{ℕ, ◌*◌, ◌≤◌, Bool, List, ltb, leb}
use Rattle.names.specs.Pick.{and_then}
use Rattle.names.specs.Onward.{onward}
use Rattle.names.specs.Number.{number_in}
use Rattle.names.specs.Fault.{Fault}
use Rattle.books.specs.Press.{widest}
use Rattle.books.specs.declared.size.Size.{Size}
use Rattle.books.specs.SizeRead.{SizeRead, By, Refused as RefusedSize}

-- the cells that an array has room for: those of a sheet with the greatest number of rows and columns of any press
abbrev pub room : ℕ
room = widest * widest

abbrev pub size_by : ℕ → ℕ → Size
size_by rows cols = record { rows = rows; cols = cols }

-- rows and columns are each from 1 to the most
pub record Within (most rows cols : ℕ) : Type 0 where
  pub rows_some : 1 ≤ rows
  pub rows_few : rows ≤ most
  pub cols_some : 1 ≤ cols
  pub cols_few : cols ≤ most

-- the test for that
unfoldable pub one_to? : ℕ → ℕ → Bool
one_to? most n = and_then (ltb 0 n) (λ _. leb n most)

unfoldable pub within? : ℕ → ℕ → ℕ → Bool
within? most rows cols = and_then (one_to? most rows) (λ _. one_to? most cols)

-- rows, then columns
unfoldable pub size_at : List ℕ → ℕ → ℕ → SizeRead
size_at s at most =
    onward RefusedSize (number_in s at 1 most) (λ rows then.
    onward RefusedSize (number_in s then 1 most) (λ cols next.
    By (size_by rows cols) next))

abbrev pub after_size {ℓ} : {A : Type ℓ} → (Fault → A) → SizeRead → (Size → ℕ → A) → A
after_size refuse (By size next) go = go size next
after_size refuse (RefusedSize f) go = refuse f
