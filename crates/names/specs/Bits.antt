-- The bits of a number.
use Rattle.std.specs.Prelude.{ℕ, zero, suc, ◌+◌, ◌/◌, ◌%◌, ◌^◌, Bool, eqb}
use Rattle.names.specs.Pick.{pick}

-- bit a of a number, which is 0 or 1
unfoldable pub bit : ℕ → ℕ → ℕ
bit x a = x / 2 ^ a % 2

unfoldable pub is_set : ℕ → ℕ → Bool
is_set x a = eqb (bit x a) 1

-- the number of which bit a is set exactly where a is below k and the test holds of a
unfoldable pub bits : ℕ → (ℕ → Bool) → ℕ
bits zero test = 0
bits (suc a) test = bits a test + pick (test a) (2 ^ a) 0
