-- A family as it was read from a lent book.
use mathlib.Core.List.{List, Memᴰ}
use mathlib.Core.Path.{◌≡◌}
use Rattle.std.specs.Prelude.{ℕ, ◌≤◌, ◌<◌, length, take}
use Rattle.names.specs.Spelling.{most_colours}
use Rattle.books.specs.ContentsIn.{contents_in}
use Rattle.books.specs.Keeps.{most_motifs, most_rules, RuleFits, Keeps}
use Rattle.books.specs.declared.family.Family.{Family}
use Rattle.books.specs.declared.rule.Rule.{Rule}
use Rattle.families.specs.inner.Lists.{Lists}

-- its rules
abbrev pub rules_of : Family → List Rule
rules_of f = take f.count f.rules

-- its counts and its start keep their ranges, and it has a place for as many rules as a book may have
pub record CountsKept (f : Family) : Type 0 where
  pub colours_few : f.colours.count ≤ most_colours
  pub motifs_few : f.motifs ≤ most_motifs
  pub start_fits : f.start < f.motifs
  pub rules_few : f.count ≤ most_rules
  pub places_all : length f.rules ≡ most_rules

-- ... its rules fit the greatest counts
pub record RulesKept (f : Family) : Type 0 where
  pub sized : CountsKept f
  pub fits : (r : Rule) → Memᴰ r (rules_of f) → RuleFits most_motifs most_colours r

-- ... its contents keep the rules of a book, and its colours are parts of the lent one
pub record Lent (s : List ℕ) (f : Family) : Type 0 where
  pub fitted : RulesKept f
  pub keeps : Keeps (contents_in s f)
  pub lists : Lists s f.colours
