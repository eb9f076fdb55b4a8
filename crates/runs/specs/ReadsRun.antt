-- What refuses a run, in words of the bytes: how far reading got, and what stands there.
use Rattle.std.specs.Prelude.{ℕ, ◌+◌, ◌-◌, ◌<◌, ◌≤◌, ◌≡◌, List, length, take, drop}
use Rattle.names.specs.Pick.{fault}
use Rattle.names.specs.Reads.{Reads}
use Rattle.names.specs.Fault.{Fault}
use Rattle.names.specs.Read.{Value, Refused}
use Rattle.books.specs.InTurn.{InTurn}
use Rattle.runs.specs.Run.{most_bytes}

-- the sheet that stands, with its length before it, from a place up to another
pub data SheetStands (run : List ℕ) (at : ℕ) (sheet : List ℕ) (next : ℕ) : Type 0 where
  a_sheet : (len start : ℕ) → Reads run at (Value len start) → len ≤ length run - start → sheet ≡ take len (drop start run) → next ≡ start + len
      → SheetStands run at sheet next

-- these sheets were read from the start on, and the next length is due at a place, or the end
abbrev pub SheetsRead : List ℕ → List (List ℕ) → ℕ → Type 0
SheetsRead run sheets at = InTurn (SheetStands run) 0 sheets at

-- what refuses a run: too many bytes (3), a length that ends early or is misspelt (1 or 2), or one that passes the end (1)
pub data RunFault (run : List ℕ) (f : Fault) : Type 0 where
  too_long : most_bytes < length run → f ≡ fault 3 0 → RunFault run f
  no_length : (sheets : List (List ℕ)) (at : ℕ) → length run ≤ most_bytes → SheetsRead run sheets at → at < length run → Reads run at (Refused f)
      → RunFault run f
  past_end : (sheets : List (List ℕ)) (at len next : ℕ) → length run ≤ most_bytes → SheetsRead run sheets at → Reads run at (Value len next)
      → length run - next < len → f ≡ fault 1 (length run) → RunFault run f
