-- The rules that have a place among the masks: motifs among the bits of an entry, and colours among the painters.
use Rattle.std.specs.Prelude.{ℕ, ◌+◌, ◌≤◌, ◌<◌, ◌≡◌, List, length, get_or}
use Rattle.names.specs.Spelling.{most_colours}
use Rattle.books.specs.Keeps.{RuleFits, most_motifs, most_rules}
use Rattle.books.specs.Rules.{no_rule}
use Rattle.books.specs.declared.rule.Rule.{Rule}
use Rattle.pieces.specs.Masks.{heads_from, all_masks}
use Rattle.pieces.specs.declared.masks.Joins.{Joins}

abbrev pub Small : Rule → Type 0
Small r = RuleFits most_motifs most_colours r

pub record SmallRules (rules : List Rule) : Type 0 where
  pub few : length rules ≤ most_rules
  pub small : (i : ℕ) → i < length rules → Small (get_or rules i no_rule)

-- what writing a join asks for: a place in the rows of so many masks, and small motifs
pub record JoinDue (masks at head first second : ℕ) : Type 0 where
  pub place : heads_from + at < masks
  pub head_low : head < most_motifs
  pub first_low : first < most_motifs
  pub second_low : second < most_motifs

-- what writing a rule asks for: all masks, a free place in each direction, and the rule small
pub record RuleDue (masks : ℕ) (j : Joins) (r : Rule) : Type 0 where
  pub all : masks ≡ all_masks
  pub across_free : j.across < most_rules
  pub down_free : j.down < most_rules
  pub small : Small r

-- what writing all rules asks for
pub record SplitDue (rules : List Rule) (masks : ℕ) : Type 0 where
  pub rules_small : SmallRules rules
  pub all : masks ≡ all_masks
