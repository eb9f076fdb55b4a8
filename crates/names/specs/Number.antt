-- What a number read at a place is, and how a number is spelled: one to three groups of seven bits, lowest group first, the shortest form only.
use Rattle.std.specs.Prelude.{ℕ, ◌+◌, ◌*◌, ◌/◌, ◌%◌, List, [], ◌∷◌, length, get_or, ltb, leb, eqb}
use Rattle.names.specs.Pick.{pick, fault}
use Rattle.names.specs.Onward.{onward}
use Rattle.names.specs.Read.{Read}
use Rattle.names.specs.Read.{Value, Refused}

-- the greatest number: three groups of ones
abbrev pub greatest_number : ℕ
greatest_number = 2097151

-- the input ends where a byte of a number is due: 1 at the input's end
abbrev pub ends_here : List ℕ → Read
ends_here s = Refused (fault 1 (length s))

-- at each byte of a number
abbrev pub byte_at : List ℕ → ℕ → (ℕ → Read) → Read
byte_at s at go = pick (leb (length s) at) (ends_here s) (go (get_or s at 0))

-- the last group of a longer number: 2 at the number's first byte where it is 0, since the number has a shorter form
unfoldable pub last_group : ℕ → ℕ → ℕ → ℕ → Read
last_group at group v next = pick (eqb group 0) (Refused (fault 2 at)) (Value v next)

-- the second group and the third, after a first that counts low: a byte below 128 is the last group, and a third byte above 127 gets 2 at the
-- number's first byte
unfoldable pub longer_at : List ℕ → ℕ → ℕ → Read
longer_at s at low =
    byte_at s (at + 1) (λ second.
    pick (ltb second 128) (last_group at second (low + 128 * second) (at + 2))
    (byte_at s (at + 2) (λ third.
    pick (ltb third 128) (last_group at third (low + 128 * (second % 128) + 16384 * third) (at + 3))
    (Refused (fault 2 at)))))

-- a byte below 128 is a number of one group
unfoldable pub number_at : List ℕ → ℕ → Read
number_at s at = byte_at s at (λ first. pick (ltb first 128) (Value first (at + 1)) (longer_at s at (first % 128)))

-- a value outside its range is refused with 3 at the number's first byte
unfoldable pub number_in : List ℕ → ℕ → ℕ → ℕ → Read
number_in s at least most =
    onward Refused (number_at s at) (λ v next.
    pick (ltb v least) (Refused (fault 3 at)) (pick (ltb most v) (Refused (fault 3 at)) (Value v next)))

-- a value that is not below its count is refused at the number's first byte, with the number that its field has
unfoldable pub number_below : List ℕ → ℕ → ℕ → ℕ → Read
number_below s at count refusal =
    onward Refused (number_at s at) (λ v next. pick (ltb v count) (Value v next) (Refused (fault refusal at)))

-- one byte where it will do, else two where they will do, three up to the greatest number
unfoldable pub spell_number : ℕ → List ℕ
spell_number v =
    pick (ltb v 128) (v ∷ [])
    (pick (ltb v 16384) ((128 + v % 128) ∷ (v / 128) ∷ [])
    (pick (leb v greatest_number) ((128 + v % 128) ∷ (128 + v / 128 % 128) ∷ (v / 16384) ∷ []) []))
