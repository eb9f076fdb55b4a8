-- What is asked of a family whose motifs are marked: what reading tells of it.
use Rattle.std.specs.Prelude.{ℕ, ◌≤◌, ◌<◌, ◌≡◌, length, take}
use Rattle.std.specs.Coded.{×_prop, le_prop}
use mathlib.Core.List.{List, Memᴰ}
use Rattle.names.specs.Spelling.{most_colours}
use Rattle.books.specs.Keeps.{most_motifs, most_rules, BodyFits, RuleFits}
use Rattle.books.specs.declared.family.Family.{Family}
use Rattle.books.specs.declared.rule.Rule.{Rule}
use Rattle.books.specs.declared.rule.Body.{Body}
use Rattle.books.specs.declared.rule.Body.TheVariants.{Colour, Across, Down}

-- every rule fits the greatest counts: a motif is a bit of a number
abbrev pub AllFit : List Rule → Type 0
AllFit rs = (r : Rule) → Memᴰ r rs → RuleFits most_motifs most_colours r

-- the rules that stand
abbrev pub rules_standing : Family → List Rule
rules_standing f = take f.count f.rules

-- a family as it is read
pub record RulesKept (f : Family) : Type 0 where
  pub colours_few : f.colours.count ≤ most_colours
  pub motifs_few : f.motifs ≤ most_motifs
  pub start_fits : f.start < f.motifs
  pub rules_few : f.count ≤ most_rules
  pub places_all : length f.rules ≡ most_rules
  pub fit : AllFit (rules_standing f)

-- a body fits in one way
pub BodyFits-prop : (m n : ℕ) (b : Body) → IsProp (BodyFits m n b)
BodyFits-prop m n (Colour c) = le_prop
BodyFits-prop m n (Across l r) = ×_prop le_prop le_prop
BodyFits-prop m n (Down u v) = ×_prop le_prop le_prop
