-- Rules as they are gathered for a new book, and what the code asks for that gathers them.
use Rattle.std.specs.Prelude.{ℕ, ◌+◌, ◌≤◌, Bool, get_or, take}
use mathlib.Core.List.{List, [], ◌∷◌, Memᴰ}
use Rattle.names.specs.Pick.{pick}
use Rattle.names.specs.Spelling.{most_colours}
use Rattle.books.specs.Equal.{stands}
use Rattle.books.specs.Keeps.{most_motifs, RuleFits}
use Rattle.books.specs.declared.rule.Rule.{Rule}
use Rattle.books.specs.Moved.{moved_rule}
use Rattle.books.specs.RuleNumbers.{AllFit}
use Rattle.families.specs.declared.rules.Rules.{Rules}

-- the rules that stand
abbrev pub standing : Rules → List Rule
standing l = take l.count l.rules

-- the rules that are not found, by a test, ...
unfoldable pub left_by : (Rule → Bool) → List Rule → List Rule
left_by found [] = []
left_by found (r ∷ rs) = pick (found r) (left_by found rs) (r ∷ left_by found rs)

-- ... which is that they stand in another list
abbrev pub missing : List Rule → List Rule → List Rule
missing before = left_by (stands before)

-- a rule whose motifs are raised by so many, and whose colour has its number in this list
unfoldable pub raised_by : ℕ → List ℕ → Rule → Rule
raised_by by numbers = moved_rule (λ a. by + a) (λ c. get_or numbers c 0)

-- what finding those that are missing asks for: rules whose parts fit a byte
pub record LeaveFits (others rules : List Rule) : Type 0 where
  pub others_fit : AllFit others
  pub rules_fit : AllFit rules

-- what raising a rule asks for: as many motifs as a book may have, at most, and a rule of such a book
pub record RaiseFits (by : ℕ) (rule : Rule) : Type 0 where
  pub few : by ≤ most_motifs
  pub fits : RuleFits most_motifs most_colours rule

-- ... and raising all rules of a list
pub record RaiseAllFits (by : ℕ) (rules : List Rule) : Type 0 where
  pub few : by ≤ most_motifs
  pub fits : (r : Rule) → Memᴰ r rules → RuleFits most_motifs most_colours r
