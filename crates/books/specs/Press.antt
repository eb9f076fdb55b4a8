-- The presses, and the greatest number of rows, and of columns, that a sheet has on each: 0 is the present press, and 1 the wide one.
use Rattle.std.specs.Prelude.{ℕ, zero, suc, ◌<◌}

-- that of the widest press
abbrev pub widest : ℕ
widest = 24

-- there is no other press: no sheet is read on one
unfoldable pub greatest_of : ℕ → ℕ
greatest_of zero = 12
greatest_of (suc zero) = widest
greatest_of (suc (suc press)) = 0

-- how many there are
abbrev pub presses : ℕ
presses = 2

-- there is such a press
abbrev pub IsPress : ℕ → Type 0
IsPress press = press < presses
