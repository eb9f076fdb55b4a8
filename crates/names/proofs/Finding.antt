-- A name is looked for one colour after the other: the colours passed, and what is found in those that are left, give what is found in all.
use Prim.Native.Nat.{ℕ, ◌<◌, ◌≤◌}
use mathlib.Core.Path.{◌≡◌}
use mathlib.Core.List.{List, Memᴰ}
use mathlib.Core.Logic.{⊎_elim}
use native.Mathlib.Omega.{arith}
use borrow.Author.Tests.{le-ltb}
use Rattle.names.specs.Name.{Name, listed}
use Rattle.names.specs.Spelling.{most_colours}
use Rattle.names.specs.Colours.{names_in, find_name}
use Rattle.names.specs.declared.colours.Colours.{Colours}
use lib.Dec.{ltb}
use Rattle.names.proofs.Picking.{pick_ind}
use Rattle.names.proofs.Tests.{lt-or-le}
use Rattle.names.proofs.Listing.{listed_le, listed-mem, listed_found}
use Rattle.names.proofs.ReadingColours.{names-count}

-- in a list that can be, the name's number is found
pub find-listed : (s : List ℕ) (c : Colours) (n : Name) → c.count ≤ most_colours → find_name s c n ≡ listed (names_in s c) n
unfolding find_name
find-listed s c n h = simp (le-ltb _ _ h)

-- and never past the count
pub find-few : (s : List ℕ) (c : Colours) (n : Name) → find_name s c n ≤ c.count
unfolding find_name
find-few s c n =
    pick_ind (λ k. k ≤ c.count) (ltb most_colours c.count) c.count (listed (names_in s c) n)
    (λ _. omega arith)
    (λ _. omega (arith, listed_le (names_in s c) n, names-count s c))

-- a name stands among those of a list exactly where it is found below the count
module _ (s : List ℕ) (c : Colours) (n : Name) (few : c.count ≤ most_colours) where
  pub found-mem : find_name s c n < c.count → Memᴰ n (names_in s c)
  found-mem h = listed-mem (names_in s c) n (omega (arith, find-listed s c n few, names-count s c))

  pub mem-found : Memᴰ n (names_in s c) → find_name s c n < c.count
  mem-found m = omega (arith, (listed_found (names_in s c) n m).0, find-listed s c n few, names-count s c)

  pub absent-unfound : (Memᴰ n (names_in s c) → ⊥) → c.count ≤ find_name s c n
  absent-unfound out = ⊎_elim (λ (h : find_name s c n < c.count). absurd (out (found-mem h))) (λ h. h) (lt-or-le _ _)
