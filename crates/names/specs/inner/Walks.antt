-- What walks over bytes and over colours find.
use Rattle.std.specs.Prelude.{ℕ, Bool, List, Option, take, drop, position, zip, nat_lt, ◌||◌}
use Rattle.std.specs.List.{enumerate_from}
use Rattle.names.specs.Name.{Name, least_byte, same_name}

abbrev pub is_unshown : ℕ → ℕ × ℕ → Bool
is_unshown len x = nat_lt x.1 (least_byte len x.0) || nat_lt 126 x.1

-- the first place, of those that there are, where a byte may not stand in a name of so many bytes
unfoldable pub first_unshown : ℕ → Name → Option ℕ
first_unshown len name = position (is_unshown len) (enumerate_from 0 name)

-- whether the name at a place, of a length, is this one
abbrev pub is_named : List ℕ → Name → ℕ × ℕ → Bool
is_named s name x = same_name (take x.1 (drop x.0 s)) name

-- the first of the names at some places, of some lengths, that is this one
unfoldable pub first_named : List ℕ → Name → List ℕ → List ℕ → Option ℕ
first_named s name starts lens = position (is_named s name) (zip starts lens)
