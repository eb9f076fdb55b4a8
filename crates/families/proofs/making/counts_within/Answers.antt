-- The three tests are those of the definition.
use Rattle.std.proofs.Common.{rules}
use Rattle.names.specs.Pick.{and_then}
use Rattle.families.specs.Limits.{counts_within?}
use Rattle.families.proofs.making.counts_within.Goals as goal

pub returns-then-motifs-le-MOST_MOTIFS : goal.returns-then-motifs-le-MOST_MOTIFS
unfolding counts_within? and_then
returns-then-motifs-le-MOST_MOTIFS c = search rules

pub returns-else-motifs-le-MOST_MOTIFS : goal.returns-else-motifs-le-MOST_MOTIFS
unfolding counts_within? and_then
returns-else-motifs-le-MOST_MOTIFS c = search rules
