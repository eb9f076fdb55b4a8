-- Rows and columns are few, so that the sum fits. The last line could go, but then a sum of the wrong parts would be refused without a word on its values.
use native.Mathlib.Omega.{arith}
use Prim.Native.Nat.{◌≤◌}
use mathlib.Core.Path.{ap}
use Rattle.books.specs.Press.{greatest_of}
use Rattle.books.specs.declared.size.Size.{Size}
use Rattle.books.proofs.Presses.{greatest-few}
use Rattle.books.proofs.ReadingSheets.{size_few}
use Rattle.lookups.proofs.sheet.dv_sheet_size.Goals as goal
use Rattle.lookups.proofs.sheet.dv_sheet_size.Goals.{After-sheet_size-size}

few : (c : After-sheet_size-size) → let most = greatest_of c.args.press in (c.sheet_size-size.result.rows ≤ most) × (c.sheet_size-size.result.cols ≤ most)
few c = let a = c.args in rw c.sheet_size-size.ensures (size_few a.press a.sheet.now)

pub overflow_mul-result : goal.overflow_mul-result
overflow_mul-result c = omega (arith, few (goal.at.overflow_mul-result c).After-sheet_size-size, greatest-few c.args.press)

pub overflow_add-result : goal.overflow_add-result
overflow_add-result c = omega (arith, few (goal.at.overflow_add-result c).After-sheet_size-size, greatest-few c.args.press)

pub returns : goal.returns
returns c =
    let size = c.sheet_size-size.ensures in
    omega (arith, ap (λ (z : Size). z.rows) size, ap (λ (z : Size). z.cols) size)
