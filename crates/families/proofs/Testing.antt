-- The test of the limits says exactly whether contents are within them: the counts are tested in turn, and only they decide.
use Prim.Native.Nat.{ℕ, ◌≤◌}
use mathlib.Core.Path.{◌≡◌}
use mathlib.Core.Bool.{true}
use mathlib.Core.Logic.{◌↔◌}
use lib.Dec.{leb}
use lib.ListN.{length}
use borrow.Author.Tests.{leb-true, le-leb}
use Rattle.names.specs.Spelling.{most_colours}
use Rattle.names.proofs.Tests.{and_both, and-make}
use Rattle.books.specs.Contents.{Contents}
use Rattle.books.specs.Keeps.{most_motifs, most_rules}
use Rattle.families.specs.Limits.{WithinLimits, counts_within?, within_limits?}

pub counts-within : (colours motifs rules : ℕ) → counts_within? colours motifs rules ≡ true
    → (colours ≤ most_colours) × (motifs ≤ most_motifs) × (rules ≤ most_rules)
unfolding counts_within?
counts-within colours motifs rules e =
    let (c, rest) = and_both (leb colours most_colours) _ e in
    let (m, r) = and_both (leb motifs most_motifs) _ rest in
    (leb-true _ _ c, leb-true _ _ m, leb-true _ _ r)

pub within-limits : (b : Contents) → (within_limits? b ≡ true) ↔ WithinLimits b
unfolding counts_within? within_limits?
within-limits b = (
  λ e. let (c, m, r) = counts-within _ _ _ e in record { colours_few = c; motifs_few = m; rules_few = r },
  λ w. and-make _ _ (le-leb _ _ w.colours_few) (and-make _ _ (le-leb _ _ w.motifs_few) (le-leb _ _ w.rules_few)),
)

pub within-counts : (b : Contents) (colours motifs rules : ℕ) → length b.colours ≡ colours → b.motifs ≡ motifs → length b.rules ≡ rules
    → within_limits? b ≡ counts_within? colours motifs rules
unfolding within_limits?
within-counts b colours motifs rules c m r = λ i. counts_within? (c i) (m i) (r i)
