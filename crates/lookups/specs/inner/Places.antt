-- A name by its number as its place and its length were read.
use Rattle.std.specs.Prelude.{ℕ, ◌+◌, ◌*◌, ◌^◌, ◌≡◌, ◌<◌, ◌≤◌, get_or, Option, Some, None}
use Rattle.names.specs.declared.colours.Colours.{Colours}
use Rattle.lookups.specs.declared.colour.Place.{Place}

abbrev pub packed : Place → ℕ
packed p = p.start + 2 ^ 32 * p.len

-- both are those of the name with this number
pub record Found (c : Colours) (k : ℕ) (p : Place) : Type 0 where
  pub below : k < c.count
  pub start_is : p.start ≡ get_or c.starts k 0
  pub length_is : p.len ≡ get_or c.lens k 0

abbrev pub PlaceFound : Colours → ℕ → Option Place → Type 0
PlaceFound c k (Some p) = Found c k p
PlaceFound c k None = c.count ≤ k
