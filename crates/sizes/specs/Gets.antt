-- What a set bit of a size card means to a host: bytes that it could ask for.
use Rattle.std.specs.Prelude.{ℕ, ◌%◌, ◌^◌, ◌≤◌, ◌≡◌, List, length}
use Rattle.names.specs.Bytes.{Bytes}
use Rattle.books.specs.Calls.{size_of}
use Rattle.pieces.specs.Area.{whole, tree_size}
use Rattle.pieces.specs.Derivation.{derivation, LeavesPacked}
use Rattle.pieces.specs.Pieces.{total}

-- some bytes of a sheet of a press, of r rows and c columns get 0 from `dv_derive`, whatever the slices, if they are long enough
pub record Gets0 (press : ℕ) (book : List ℕ) (r c : ℕ) : Type 0 where
  pub sheet : List ℕ
  pub bytes : Bytes sheet
  pub rows_are : (size_of press sheet).rows ≡ r
  pub cols_are : (size_of press sheet).cols ≡ c
  pub gets_0 : (work tree work_left tree_left : List ℕ) (n : ℕ) → total r c ≤ length work → tree_size (whole r c) ≤ length tree
      → LeavesPacked (derivation press book sheet work tree) n work_left tree_left → n % 2 ^ 8 ≡ 0
