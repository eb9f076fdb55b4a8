-- What merging the colours of two lent books gives.
use Rattle.std.specs.Prelude.{ℕ, ◌≤◌, ◌<◌, ◌≡◌, List, ◌++◌, get_or}
use Rattle.names.specs.Name.{listed}
use Rattle.names.specs.Colours.{name_in, names_in}
use Rattle.names.specs.declared.colours.Colours.{Colours}
use Rattle.families.specs.Merged.{merged}
use Rattle.families.specs.declared.merge.Merged.{Merged}

-- the first book's colours with these parts of the second are the merged list, where each of the second's colours has its number
pub record Merges (s : List ℕ) (f : Colours) (t : List ℕ) (g : Colours) (m : Merged) : Type 0 where
  pub names : names_in s f ++ names_in t m.more ≡ merged (names_in s f) (names_in t g)
  pub numbered : (i : ℕ) → i < g.count → get_or m.numbers i 0 ≡ listed (merged (names_in s f) (names_in t g)) (name_in t g i)
  pub few : m.more.count ≤ g.count
