-- The remainder keeps the bits below the motif, and the motif's number is how many of them are set.
use Prim.Native.Nat.{◌^◌}
use mathlib.Core.Path.{◌∙◌}
use native.Mathlib.Nat.{one-mul}
use native.Mathlib.Omega.{arith}
use lib.Pow.{pow_pos, shl_exact}
use Rattle.tidy.proofs.Ranks.{rank-ones}
use Rattle.tidy.proofs.clearing.rank.Goals as goal

pub nonzero_rem-result : goal.nonzero_rem-result
nonzero_rem-result c = rw (shl_exact 1 c.args.motif 64 (omega arith) (omega (arith, c.requires)) ∙ one-mul (2 ^ c.args.motif)) (pow_pos c.args.motif)

pub returns : goal.returns
returns c =
    let shifted = shl_exact 1 c.args.motif 64 (omega arith) (omega (arith, c.requires)) ∙ one-mul (2 ^ c.args.motif) in
    rw (c.from.ensures, shifted) (rank-ones c.args.marks c.args.motif)
