-- So many rows of so many cells: more of either are no fewer, so that a sheet's cells find room in their array.
use Prim.Native.Nat.{ℕ, ◌*◌, ◌≤◌}
use native.Mathlib.Nat.{mul-le-mul}
use native.Mathlib.Omega.{arith}
use Rattle.books.specs.Press.{greatest_of}
use Rattle.books.specs.Size.{room, Within}
use Rattle.books.proofs.Presses.{greatest-few}

pub area : (rows cols most : ℕ) → rows ≤ most → cols ≤ most → rows * cols ≤ most * most
area rows cols most h g = mul-le-mul h g

pub within-area : {most rows cols : ℕ} → Within most rows cols → rows * cols ≤ most * most
within-area w = area _ _ _ w.rows_few w.cols_few

-- the greatest sheet of every press finds room
pub room_enough : (press : ℕ) → greatest_of press * greatest_of press ≤ room
room_enough press = area (greatest_of press) (greatest_of press) _ (greatest-few press) (greatest-few press)

pub within-room : (press : ℕ) {rows cols : ℕ} → Within (greatest_of press) rows cols → rows * cols ≤ room
within-room press w = omega (arith, within-area w, room_enough press)
