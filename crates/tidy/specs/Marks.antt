-- Sets of motifs as the bits of a number.
use Rattle.std.specs.Prelude.{ℕ, zero, suc, ◌+◌, ◌^◌}
use Rattle.std.specs.Int.Bits.{bit_or}
use Rattle.names.specs.Pick.{pick}
use Rattle.names.specs.Bits.{is_set}

-- one motif more is marked
unfoldable pub adding : ℕ → ℕ → ℕ
adding m a = bit_or m (2 ^ a)

-- how many motifs below n are marked: the number of motif n among the marked ones
unfoldable pub rank : ℕ → ℕ → ℕ
rank m zero = 0
rank m (suc n) = rank m n + pick (is_set m n) 1 0
