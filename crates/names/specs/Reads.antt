-- What reading a number or a name finds, in words of the bytes: each way in which it can end, and when. Exactly one holds.
use Rattle.std.specs.Prelude.{ℕ, ◌+◌, ◌*◌, ◌%◌, ◌<◌, ◌≤◌, ◌≡◌, List, ◌⊎◌, length, get_or}
use Rattle.names.specs.Pick.{fault}
use Rattle.names.specs.Name.{Shown}
use Rattle.names.specs.Fault.{Fault}
use Rattle.names.specs.Read.{Read}
use Rattle.names.specs.Read.{Value, Refused}
use Rattle.names.specs.NameRead.{NameRead}
use Rattle.names.specs.NameRead.{Whole, Ends, Bad}

-- a number that is due at a place: a byte above 127 asks for another group, and there are three at most
pub data Reads (s : List ℕ) (at : ℕ) (r : Read) : Type 0 where
  nothing_there : length s ≤ at → r ≡ Refused (fault 1 (length s)) → Reads s at r
  ends_after_one : at + 1 ≡ length s → 128 ≤ get_or s at 0 → r ≡ Refused (fault 1 (length s)) → Reads s at r
  ends_after_two : at + 2 ≡ length s → 128 ≤ get_or s at 0 → 128 ≤ get_or s (at + 1) 0 → r ≡ Refused (fault 1 (length s)) → Reads s at r
  second_zero : at + 1 < length s → 128 ≤ get_or s at 0 → get_or s (at + 1) 0 ≡ 0 → r ≡ Refused (fault 2 at) → Reads s at r
  third_misspelt : at + 2 < length s → 128 ≤ get_or s at 0 → 128 ≤ get_or s (at + 1) 0 → (get_or s (at + 2) 0 ≡ 0) ⊎ (128 ≤ get_or s (at + 2) 0)
      → r ≡ Refused (fault 2 at) → Reads s at r
  one_byte : at < length s → get_or s at 0 < 128 → r ≡ Value (get_or s at 0) (at + 1) → Reads s at r
  two_bytes : at + 1 < length s → 128 ≤ get_or s at 0 → 1 ≤ get_or s (at + 1) 0 → get_or s (at + 1) 0 < 128
      → r ≡ Value (get_or s at 0 % 128 + 128 * get_or s (at + 1) 0) (at + 2) → Reads s at r
  three_bytes : at + 2 < length s → 128 ≤ get_or s at 0 → 128 ≤ get_or s (at + 1) 0 → 1 ≤ get_or s (at + 2) 0 → get_or s (at + 2) 0 < 128
      → r ≡ Value (get_or s at 0 % 128 + 128 * (get_or s (at + 1) 0 % 128) + 16384 * get_or s (at + 2) 0) (at + 3) → Reads s at r

-- a count, a length, rows or columns: 3 at its first byte where it is well spelt and outside its range
pub data ReadsIn (s : List ℕ) (at least most : ℕ) (r : Read) : Type 0 where
  in_range : (v next : ℕ) → Reads s at (Value v next) → least ≤ v → v ≤ most → r ≡ Value v next → ReadsIn s at least most r
  out_of_range : (v next : ℕ) → Reads s at (Value v next) → (v < least) ⊎ (most < v) → r ≡ Refused (fault 3 at) → ReadsIn s at least most r
  no_number : (f : Fault) → Reads s at (Refused f) → r ≡ Refused f → ReadsIn s at least most r

-- a motif, a colour or a kind: its field's refusal at its first byte where it is well spelt and not below its count
pub data ReadsBelow (s : List ℕ) (at count refusal : ℕ) (r : Read) : Type 0 where
  below_count : (v next : ℕ) → Reads s at (Value v next) → v < count → r ≡ Value v next → ReadsBelow s at count refusal r
  not_below : (v next : ℕ) → Reads s at (Value v next) → count ≤ v → r ≡ Refused (fault refusal at) → ReadsBelow s at count refusal r
  none_below : (f : Fault) → Reads s at (Refused f) → r ≡ Refused f → ReadsBelow s at count refusal r

-- the first so many bytes may all stand in a name of len bytes
abbrev pub AllShown : List ℕ → ℕ → ℕ → Type 0
AllShown s len n = (j : ℕ) → j < n → Shown len j (get_or s j 0)

-- a name of so many bytes that s begins with
pub data ReadsName (s : List ℕ) (len : ℕ) (r : NameRead) : Type 0 where
  whole : len ≤ length s → AllShown s len len → r ≡ Whole → ReadsName s len r
  ends : length s < len → AllShown s len (length s) → r ≡ Ends → ReadsName s len r
  bad : (k : ℕ) → k < len → k < length s → AllShown s len k → (Shown len k (get_or s k 0) → ⊥) → r ≡ Bad k → ReadsName s len r
