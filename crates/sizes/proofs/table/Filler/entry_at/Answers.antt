-- Along the row and along the column are all cuts.
use mathlib.Core.Path.{ap₂, ◌∙◌}
use lib.Bits.{bit_or}
use Rattle.sizes.proofs.AlongCuts.{beside-cuts, above-cuts}
use Rattle.sizes.proofs.table.Filler.entry_at.Goals as goal

pub returns : goal.returns
returns c = ap₂ bit_or (c.along-beside.ensures ∙ beside-cuts _ _ _ _) (c.along-above.ensures ∙ above-cuts _ _ _ _)
