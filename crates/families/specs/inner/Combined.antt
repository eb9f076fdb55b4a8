-- The rules that a combination adds to those of families that were read. A colour of a second family gets its number from a list.
use Rattle.std.specs.Prelude.{ℕ, List, [], ◌∷◌, map}
use Rattle.books.specs.Picture.{joins}
use Rattle.books.specs.RuleNumbers.{AllFit}
use Rattle.books.specs.declared.rule.Rule.{Rule}
use Rattle.books.specs.declared.family.Family.{Family}
use Rattle.families.specs.Combine.{copies}
use Rattle.families.specs.inner.Gathered.{missing, raised_by}
use Rattle.families.specs.inner.Lent.{rules_of}
use Rattle.families.specs.declared.asked.Pairing.{Pairing}
use Rattle.families.specs.declared.asked.Pairing.TheVariants.{EitherOf, Joined}

-- the second family's rules, raised
abbrev pub raised_rules : Family → Family → List ℕ → List Rule
raised_rules f g numbers = map (raised_by f.motifs numbers) (rules_of g)

-- what a pairing adds from the first family, ...
abbrev pub first_adds : Pairing → ℕ → ℕ → List Rule → List Rule
first_adds EitherOf start new own = copies new start own
first_adds (Joined way) start new own = []

-- ... and from the second, after what was copied from the first
abbrev pub second_adds : Pairing → ℕ → List Rule → List Rule → ℕ → ℕ → List Rule
second_adds EitherOf start copied raised other new = missing copied (copies new other raised)
second_adds (Joined way) start copied raised other new = record { head = new; body = joins way start other } ∷ []

-- what the second asks for: rules whose parts fit a byte
pub record AddsFit (copied raised : List Rule) : Type 0 where
  pub copied_fit : AllFit copied
  pub raised_fit : AllFit raised
