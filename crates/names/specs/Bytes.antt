-- Every theorem from the bytes has of each of its inputs that it is made of bytes. Whatever is lent as `&[u8]` is: the prover knows it of every
-- such slice, so that no caller has to see to it.
use Rattle.std.specs.Prelude.{ℕ, ◌<◌, List, get_or}

abbrev pub Bytes : List ℕ → Type 0
Bytes s = (i : ℕ) → get_or s i 0 < 256
