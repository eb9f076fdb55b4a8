-- What a combination must not exceed, the colours, motifs and rules that a book may have, and the test of it.
use Rattle.std.specs.Prelude.{ℕ, ◌≤◌, Bool, leb, length}
use Rattle.names.specs.Pick.{and_then}
use Rattle.names.specs.Spelling.{most_colours}
use Rattle.books.specs.Contents.{Contents}
use Rattle.books.specs.Keeps.{most_motifs, most_rules}

pub record WithinLimits (b : Contents) : Type 0 where
  pub colours_few : length b.colours ≤ most_colours
  pub motifs_few : b.motifs ≤ most_motifs
  pub rules_few : length b.rules ≤ most_rules

-- so many colours, motifs and rules are within the limits
unfoldable pub counts_within? : ℕ → ℕ → ℕ → Bool
counts_within? colours motifs rules = and_then (leb colours most_colours) (λ _. and_then (leb motifs most_motifs) (λ _. leb rules most_rules))

unfoldable pub within_limits? : Contents → Bool
within_limits? b = counts_within? (length b.colours) b.motifs (length b.rules)
