-- A number below a count of at most 64 fits a byte.
use native.Mathlib.Omega.{arith}
use mathlib.Core.Path.{sym}
use Rattle.names.proofs.ReadingNumbers.{number_below_lem}
use Rattle.books.proofs.listed.read_listed.Goals as goal

pub overflow_cast-result : goal.overflow_cast-result
overflow_cast-result c = omega (arith, (number_below_lem _ _ _ _ _ _ (sym c.in_ok-number.ensures.read)).low)
