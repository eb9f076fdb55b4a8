-- What refuses a colour list, in words of the bytes: how far reading got, and what stands there.
use Rattle.std.specs.Prelude.{ℕ, ◌+◌, ◌<◌, ◌≡◌, length, take, drop}
use mathlib.Core.List.{List, [], ◌∷◌, ◌++◌, Memᴰ}
use Rattle.names.specs.Pick.{fault}
use Rattle.names.specs.Name.{Name}
use Rattle.names.specs.Reads.{ReadsIn, ReadsName}
use Rattle.names.specs.Spelling.{longest_name, most_colours}
use Rattle.names.specs.Fault.{Fault}
use Rattle.names.specs.Read.{Value, Refused}
use Rattle.names.specs.NameRead.{Whole, Ends, Bad}

-- the bytes of a name
abbrev pub bytes_at : List ℕ → ℕ → ℕ → Name
bytes_at s start len = take len (drop start s)

-- of so many names these were read, and the next length is due at a place
pub data Reached (s : List ℕ) (count : ℕ) : List Name → ℕ → Type 0 where
  counted : {ns : List Name} {at : ℕ} → ReadsIn s 0 1 most_colours (Value count at) → ns ≡ [] → Reached s count ns at
  one_more : {ns : List Name} {at : ℕ} (before : List Name) (from start len : ℕ) → Reached s count before from → length before < count
      → ReadsIn s from 1 longest_name (Value len start) → ReadsName (drop start s) len Whole → (Memᴰ (bytes_at s start len) before → ⊥)
      → ns ≡ before ++ (bytes_at s start len ∷ []) → at ≡ start + len → Reached s count ns at

-- all names of a list of so many were read, and what follows it is due at a place
pub record ListRead (s : List ℕ) (count at : ℕ) : Type 0 where
  pub names : List Name
  pub read : Reached s count names at
  pub all : length names ≡ count

-- what refuses a name after others: 1 where the input ends in it, 4 at a byte that may not stand in a name, 5 at its first byte where an earlier name equals it
pub data NameFault (s : List ℕ) (before : List Name) (start len : ℕ) (f : Fault) : Type 0 where
  cut_short : ReadsName (drop start s) len Ends → f ≡ fault 1 (length s) → NameFault s before start len f
  bad_byte : (k : ℕ) → ReadsName (drop start s) len (Bad k) → f ≡ fault 4 (start + k) → NameFault s before start len f
  twice : ReadsName (drop start s) len Whole → Memᴰ (bytes_at s start len) before → f ≡ fault 5 start → NameFault s before start len f

-- what refuses a list: its count, a length, or a name
pub data ListFault (s : List ℕ) (f : Fault) : Type 0 where
  no_count : ReadsIn s 0 1 most_colours (Refused f) → ListFault s f
  no_length : (count at : ℕ) (ns : List Name) → Reached s count ns at → length ns < count → ReadsIn s at 1 longest_name (Refused f) → ListFault s f
  no_name : (count at start len : ℕ) (ns : List Name) → Reached s count ns at → length ns < count → ReadsIn s at 1 longest_name (Value len start)
      → NameFault s ns start len f → ListFault s f
