-- Which part of a lent slice a returned slice is: the very bytes of the lent one from a place on, and not others that equal them. Equal bytes
-- may stand at several places.
use Rattle.std.specs.Prelude.{ℕ, ◌+◌, ◌≡◌, List, leb, length}
use Rattle.std.specs.Borrow.{Bor}
use Rattle.names.specs.Pick.{pick}

-- r lies in the same memory as s, so many bytes further on, and holds these bytes
pub record Part (s : Bor (List ℕ)) (start : ℕ) (bytes : List ℕ) (r : Bor (List ℕ)) : Type 0 where
  pub memory : r.ref_ptr.0 ≡ s.ref_ptr.0
  pub offset : r.ref_ptr.1 ≡ s.ref_ptr.1 + start
  pub holds : r.now ≡ bytes

-- where the part from a place on starts: past the end it is the empty part at the front
abbrev pub tail_start : List ℕ → ℕ → ℕ
tail_start s at = pick (leb at (length s)) at 0
