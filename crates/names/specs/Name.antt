-- What reading a name finds, when two names are the same, and which number a name has in a list.
use Rattle.std.specs.Prelude.{ℕ, zero, suc, ◌+◌, ◌≤◌, List, [], ◌∷◌, Bool, true, false, length, get_or, ltb, leb, eqb}
use Rattle.names.specs.Pick.{pick}
use Rattle.names.specs.NameRead.{NameRead}
use Rattle.names.specs.NameRead.{Whole, Ends, Bad}

-- a name is its bytes
abbrev pub Name : Type 0
Name = List ℕ

-- the least byte at place i of a name of so many bytes: a blank, 32, stands inside a name, and neither first nor last
unfoldable pub least_byte : ℕ → ℕ → ℕ
least_byte len i = pick (eqb i 0) 33 (pick (eqb (i + 1) len) 33 32)

-- a byte that may stand there
pub record Shown (len i b : ℕ) : Type 0 where
  pub low : least_byte len i ≤ b
  pub high : b ≤ 126

-- the last so many bytes of a name of len bytes, from the i-th on: left to right, to the first fault
abbrev pub name_from : List ℕ → ℕ → ℕ → ℕ → NameRead
name_from s len i zero = Whole
name_from s len i (suc k) =
    pick (leb (length s) i) Ends
    (pick (ltb (get_or s i 0) (least_byte len i)) (Bad i) (pick (ltb 126 (get_or s i 0)) (Bad i) (name_from s len (i + 1) k)))

-- the name of so many bytes that s begins with
unfoldable pub name_of : List ℕ → ℕ → NameRead
name_of s len = name_from s len 0 len

-- names are the same when they have the same length and the same bytes
unfoldable pub same_name : Name → Name → Bool
same_name [] [] = true
same_name [] (y ∷ ys) = false
same_name (x ∷ xs) [] = false
same_name (x ∷ xs) (y ∷ ys) = pick (eqb x y) (same_name xs ys) false

-- the number of a name in a list: that of the first such name, or the list's length where the name stands nowhere in it
unfoldable pub listed : List Name → Name → ℕ
listed [] n = 0
listed (x ∷ xs) n = pick (same_name x n) 0 (suc (listed xs n))
