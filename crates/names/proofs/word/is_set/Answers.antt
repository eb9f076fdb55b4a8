-- A word, below 2 to the power 32, has no bit from the 32nd on.
use native.Mathlib.Omega.{arith}
use borrow.Author.Tests.{le-ltb}
use Rattle.names.specs.Bits.{is_set}
use Rattle.names.proofs.Bits.{bit_high}
use Rattle.names.proofs.word.is_set.Goals as goal

pub returns-else-bit-lt32 : goal.returns-else-bit-lt32
unfolding is_set
returns-else-bit-lt32 c = let a = c.args in simp (bit_high a.word a.bit 32 (omega arith) c.if-bit-lt32.false, le-ltb _ _ c.if-bit-lt32.false)
