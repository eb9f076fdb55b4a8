-- The cells are those of the sheet that was read, few enough that neither product wraps.
use Rattle.std.proofs.Common.{◌≡◌, ◌*◌, ◌≤◌, ℕ, List, arith, ap}
use Rattle.books.specs.Calls.{size_of}
use Rattle.books.specs.Size.{room}
use Rattle.books.specs.declared.size.Size.{Size}
use Rattle.books.proofs.Area.{room_enough}
use Rattle.belongs.proofs.NodesGiven.{cells-few}
use Rattle.belongs.proofs.nodes.Goals as goal

-- The product of a size that was asked for is that of the sheet's rows and columns, ...
cells : (s : List ℕ) (z : Size) → z ≡ size_of 0 s → z.rows * z.cols ≡ (size_of 0 s).rows * (size_of 0 s).cols
cells s z e = ap (λ (z : Size). z.rows * z.cols) e

-- ... and small.
area : (s : List ℕ) (z : Size) → z ≡ size_of 0 s → z.rows * z.cols ≤ room
area s z e = omega (arith, cells s z e, cells-few s, room_enough 0)

pub overflow_mul-cells : goal.overflow_mul-cells
overflow_mul-cells c = omega (arith, area _ _ c.sheet_size-size.ensures)

pub overflow_mul-cells-2 : goal.overflow_mul-cells-2
overflow_mul-cells-2 c = omega (arith, area _ _ c.sheet_size-size.ensures)
