-- What writing bytes at a place leaves in a slice: where they do not fit, the slice is as it was.
use Rattle.std.specs.Prelude.{ℕ, ◌+◌, ◌≡◌, List, ◌++◌, length, take, drop, leb}
use Rattle.names.specs.Pick.{pick}

unfoldable pub put : List ℕ → ℕ → List ℕ → List ℕ
put out at l = pick (leb (at + length l) (length out)) (take at out ++ l ++ drop (at + length l) out) out

-- the place after them
unfoldable pub past : List ℕ → ℕ → List ℕ → ℕ
past out at l = pick (leb (at + length l) (length out)) (at + length l) at

-- what a writer of bytes at a place gives and leaves
abbrev pub Puts : List ℕ → ℕ → List ℕ → ℕ → List ℕ → Type 0
Puts before at l next after = (next ≡ past before at l) × (after ≡ put before at l)
