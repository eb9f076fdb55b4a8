-- The shifted 1 is the power of two, since a motif is a bit of a mark.
use mathlib.Core.Path.{◌∙◌, ap}
use Prim.Native.Nat.{◌^◌}
use native.Mathlib.Nat.{one-mul}
use native.Mathlib.Omega.{arith}
use lib.Bits.{bit_or}
use lib.Pow.{shl_exact}
use Rattle.tidy.specs.Marks.{adding}
use Rattle.tidy.proofs.marking.add.Goals as goal

pub returns : goal.returns
unfolding adding
returns c = let a = c.args in ap (bit_or a.marks) (shl_exact 1 a.motif 32 (omega arith) (omega (arith, c.requires)) ∙ one-mul (2 ^ a.motif))
