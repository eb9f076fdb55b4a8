-- What reading a colour list finds.
use Rattle.std.specs.Prelude.{ℕ, zero, suc, ◌+◌, ◌≡◌, List, [], ◌∷◌, length, get_or, take, drop, set, replicate, ltb}
use Rattle.names.specs.Pick.{pick, fault}
use Rattle.names.specs.Onward.{onward, faultless}
use Rattle.names.specs.Number.{number_in}
use Rattle.names.specs.Name.{Name, name_of, listed}
use Rattle.names.specs.Spelling.{longest_name, most_colours}
use Rattle.names.specs.Fault.{Fault}
use Rattle.names.specs.NameRead.{NameRead}
use Rattle.names.specs.NameRead.{Whole, Ends, Bad}
use Rattle.names.specs.ColourRead.{ColourRead}
use Rattle.names.specs.ColourRead.{At, Refused as RefusedColour}
use Rattle.names.specs.declared.colours.Colours.{Colours}
use Rattle.names.specs.ColoursRead.{ColoursRead}
use Rattle.names.specs.ColoursRead.{ListFigures}

-- so many colours, with the place and the length of each name
abbrev pub list_of : ℕ → List ℕ → List ℕ → Colours
list_of count starts lens = record { count = count; starts = starts; lens = lens }

-- the names that a list of places shows in the input, in order
abbrev pub name_in : List ℕ → Colours → ℕ → Name
name_in s c i = take (get_or c.lens i 0) (drop (get_or c.starts i 0) s)

abbrev pub names_from : List ℕ → Colours → ℕ → ℕ → List Name
names_from s c i zero = []
names_from s c i (suc k) = name_in s c i ∷ names_from s c (i + 1) k

abbrev pub names_in : List ℕ → Colours → List Name
names_in s c = names_from s c 0 c.count

-- the number of the colour with a name, or the count; a count that no list has holds nothing
unfoldable pub find_name : List ℕ → Colours → Name → ℕ
find_name s c n = pick (ltb most_colours c.count) c.count (listed (names_in s c) n)

-- the name of so many bytes from a place on
abbrev pub named_at : List ℕ → ℕ → ℕ → NameRead → ColourRead
named_at s start len Whole = At start len
named_at s start len Ends = RefusedColour (fault 1 (length s))
named_at s start len (Bad k) = RefusedColour (fault 4 (start + k))

-- a length from 1 to the longest, then the name
unfoldable pub colour_at : List ℕ → ℕ → ColourRead
colour_at s at = onward RefusedColour (number_in s at 1 longest_name) (λ len start. named_at s start len (name_of (drop start s) len))

abbrev pub after_colour {ℓ} : {A : Type ℓ} → (Fault → A) → ColourRead → (ℕ → ℕ → A) → A
after_colour refuse (At start len) go = go start len
after_colour refuse (RefusedColour f) go = refuse f

-- no colours, and a refused list
abbrev pub no_colours : Colours
no_colours = record { count = 0; starts = replicate most_colours 0; lens = replicate most_colours 0 }

abbrev pub refused_colours : Fault → ColoursRead
refused_colours f = record { fault = f; colours = no_colours; next = 0 }

-- the list with one name more
abbrev pub with_colour : Colours → ℕ → ℕ → Colours
with_colour c start len =
    record { count = c.count + 1; starts = set c.starts c.count start; lens = set c.lens c.count len }

-- so many colours more from a place on: 5 at the first byte of a name that stood earlier
abbrev pub colours_from : List ℕ → Colours → ℕ → ℕ → ColoursRead
colours_from s c at zero = record { fault = fault 0 0; colours = c; next = at }
colours_from s c at (suc k) =
    after_colour refused_colours (colour_at s at) (λ start len.
    pick (ltb (find_name s c (take len (drop start s))) c.count) (refused_colours (fault 5 start))
    (colours_from s (with_colour c start len) (start + len) k))

-- a count from 1 to the most, then so many names
unfoldable pub colours_of : List ℕ → ColoursRead
colours_of s = onward refused_colours (number_in s 0 1 most_colours) (λ count next. colours_from s no_colours next count)

abbrev pub after_colours {ℓ} : {A : Type ℓ} → (Fault → A) → ColoursRead → (Colours → ℕ → A) → A
after_colours refuse r go = faultless refuse r.fault (go r.colours r.next)

-- the same list told in parts: the places and the sizes of its names are in two arrays
pub record ListInto (c : ColoursRead) (r : ListFigures) (places sizes : List ℕ) : Type 0 where
  pub fault : r.fault ≡ c.fault
  pub count : r.count ≡ c.colours.count
  pub next : r.next ≡ c.next
  pub starts : places ≡ c.colours.starts
  pub lens : sizes ≡ c.colours.lens
