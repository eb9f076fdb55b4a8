-- Numbers at their limits and colour lists of the house book, computed from the definitions.
use Prim.Native.Nat.{ℕ, ◌+◌}
use mathlib.Core.Path.{◌≡◌, refl}
use mathlib.Core.List.{List, [], ◌∷◌, ◌++◌}
use Rattle.names.specs.Pick.{fault}
use Rattle.names.specs.Number.{greatest_number, last_group, longer_at, number_at, number_in, spell_number}
use Rattle.names.specs.Name.{Name, least_byte, name_of, same_name, listed}
use Rattle.names.specs.Colours.{names_in, find_name, colour_at, colours_of}
use Rattle.names.specs.Read.{Value, Refused}
use Rattle.names.specs.NameRead.{Whole, Ends, Bad}

pub record Numbers : Type 0 where
  pub p7 : number_at (128 ∷ 0 ∷ []) 0 ≡ Refused (fault 2 0)
  pub p8 : number_at (200 ∷ 1 ∷ []) 0 ≡ Value 200 2
  pub least : spell_number 0 ≡ 0 ∷ []
  pub one_byte : spell_number 127 ≡ 127 ∷ []
  pub two_bytes : spell_number 128 ≡ 128 ∷ 1 ∷ []
  pub greatest_of_two : spell_number 16383 ≡ 255 ∷ 127 ∷ []
  pub three_bytes : spell_number 16384 ≡ 128 ∷ 128 ∷ 1 ∷ []
  pub greatest : spell_number greatest_number ≡ 255 ∷ 255 ∷ 127 ∷ []
  pub none_greater : spell_number (greatest_number + 1) ≡ []
  pub two_read : number_at (255 ∷ 127 ∷ []) 0 ≡ Value 16383 2
  pub three_read : number_at (128 ∷ 128 ∷ 1 ∷ []) 0 ≡ Value 16384 3
  pub greatest_read : number_at (255 ∷ 255 ∷ 127 ∷ []) 0 ≡ Value greatest_number 3
  pub last_zero : number_at (128 ∷ 128 ∷ 0 ∷ []) 0 ≡ Refused (fault 2 0)
  pub too_long : number_at (128 ∷ 128 ∷ 128 ∷ []) 0 ≡ Refused (fault 2 0)
  pub ends : number_at (128 ∷ []) 0 ≡ Refused (fault 1 1)
  pub ends_later : number_at (128 ∷ 128 ∷ []) 0 ≡ Refused (fault 1 2)
  pub over_large : number_in (255 ∷ 255 ∷ 127 ∷ []) 0 1 40 ≡ Refused (fault 3 0)

pub numbers : Numbers
unfolding number_at longer_at last_group number_in spell_number
numbers =
    record {
      p7 = refl;
      p8 = refl;
      least = refl;
      one_byte = refl;
      two_bytes = refl;
      greatest_of_two = refl;
      three_bytes = refl;
      greatest = refl;
      none_greater = refl;
      two_read = refl;
      three_read = refl;
      greatest_read = refl;
      last_zero = refl;
      too_long = refl;
      ends = refl;
      ends_later = refl;
      over_large = refl;
    }

-- the colour list of the house book, with what follows it
pub slate_c : Name
slate_c = 83 ∷ 108 ∷ 97 ∷ 116 ∷ 101 ∷ 32 ∷ 67 ∷ []

-- a blank stands inside a name, and neither first nor last
pub record Blanks : Type 0 where
  pub inside : name_of (65 ∷ 32 ∷ 66 ∷ []) 3 ≡ Whole
  pub first : name_of (32 ∷ 65 ∷ []) 2 ≡ Bad 0
  pub last : name_of (65 ∷ 32 ∷ []) 2 ≡ Bad 1
  pub alone : name_of (32 ∷ []) 1 ≡ Bad 0
  pub end_before_last : name_of (65 ∷ 32 ∷ []) 3 ≡ Ends

pub blanks : Blanks
unfolding name_of least_byte
blanks = record { inside = refl; first = refl; last = refl; alone = refl; end_before_last = refl }

pub slate_u : Name
slate_u = 83 ∷ 108 ∷ 97 ∷ 116 ∷ 101 ∷ 32 ∷ 85 ∷ []

pub house : List ℕ
unfolding slate_c slate_u
house = 2 ∷ 7 ∷ slate_c ++ (7 ∷ slate_u ++ (3 ∷ 0 ∷ 4 ∷ []))

-- Slate C listed twice
pub twice : List ℕ
unfolding slate_c
twice = 2 ∷ 7 ∷ slate_c ++ (7 ∷ slate_c)

pub record Lists : Type 0 where
  pub fine : (colours_of house).fault ≡ fault 0 0
  pub next : (colours_of house).next ≡ 17
  pub names : names_in house (colours_of house).colours ≡ slate_c ∷ slate_u ∷ []
  pub repeated : (colours_of twice).fault ≡ fault 5 10

pub lists : Lists
unfolding house twice slate_c slate_u colours_of number_in number_at colour_at name_of least_byte find_name listed same_name
lists = record { fine = refl; next = refl; names = refl; repeated = refl }
