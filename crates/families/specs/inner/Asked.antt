-- Which combination is asked for, and what it makes of a rule.
use Rattle.books.specs.Contents.{Contents}
use Rattle.books.specs.declared.rule.Dir.TheVariants.{Across as across, Down as down}
use Rattle.books.specs.declared.rule.Rule.{Rule}
use Rattle.books.specs.declared.rule.Body.{Body}
use Rattle.families.specs.Combine.{either_of, joined, repeated, rebodied, turned, swapped}
use Rattle.families.specs.declared.asked.Change.{Change}
use Rattle.families.specs.declared.asked.Change.TheVariants.{Mirrored, Flipped, Transposed}
use Rattle.families.specs.declared.asked.Pairing.{Pairing}
use Rattle.families.specs.declared.asked.Pairing.TheVariants.{EitherOf, Joined}
use Rattle.families.specs.declared.asked.Single.{Single}
use Rattle.families.specs.declared.asked.Single.TheVariants.{Repeated, Changed}

abbrev pub changed_body : Change → Body → Body
changed_body Mirrored = swapped across
changed_body Flipped = swapped down
changed_body Transposed = turned

-- the head stays
abbrev pub changed_rule : Change → Rule → Rule
changed_rule c r = record { head = r.head; body = changed_body c r.body }

abbrev pub paired : Pairing → Contents → Contents → Contents
paired EitherOf = either_of
paired (Joined way) = joined way

abbrev pub alone : Single → Contents → Contents
alone (Repeated way) = repeated way
alone (Changed change) = rebodied (changed_body change)
