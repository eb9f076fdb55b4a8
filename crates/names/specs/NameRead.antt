-- What reading a name of so many bytes gives.
use Rattle.std.specs.Prelude.{ℕ}

-- it is whole, or the input ends in it, or the byte at a place of it may not stand in a name
pub data NameRead : Type 0 where
  Whole : NameRead
  Ends : NameRead
  Bad : ℕ → NameRead
