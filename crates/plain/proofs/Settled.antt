-- Two answers that a call's contract allows are equal: both are that of the lent bytes.
use Prim.Native.Nat.{ℕ}
use mathlib.Core.List.{List}
use Rattle.names.proofs.Settled.{Settles, settles}
use Rattle.books.specs.Answer.{packed}
use Rattle.plain.specs.Outcome.{plain_answer}

pub plain-settled : (press : ℕ) (book sheet : List ℕ) → Settles (plain_answer press book sheet)
plain-settled press book sheet = settles _

pub dv_plain-settled : (press : ℕ) (book sheet : List ℕ) → Settles (packed (plain_answer press book sheet) 0)
dv_plain-settled press book sheet = settles _
