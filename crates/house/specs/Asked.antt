-- What the cases ask of the calls, each with slices lent that hold sevens, and what they expect of them.
use Rattle.std.specs.Prelude.{ℕ, ◌-◌, List, ◌++◌, length, replicate}
use Rattle.books.specs.Contents.{Contents}
use Rattle.books.specs.Answer.{plain}
use Rattle.pieces.specs.Derivation.{Derivation, derivation}
use Rattle.drafts.specs.Outcome.{Outcome}
use Rattle.families.specs.Outcome.{on_one, on_two}

-- the outcome of `derive`; the slices are just long enough for sheet A
abbrev pub asked : List ℕ → List ℕ → Derivation
asked book sheet = derivation 0 book sheet (replicate 18 7) (replicate 22 7)

-- the outcome of a combination of one book, and of a book with itself
abbrev pub changed : (Contents → Contents) → List ℕ → Outcome
changed op book = on_one op book (replicate 70 7)

abbrev pub with_itself : (Contents → Contents → Contents) → List ℕ → Outcome
with_itself op book = on_two op book book (replicate 70 7)

-- a book was written, and the slice beyond is as it was
abbrev pub wrote : List ℕ → Outcome
wrote book = record { answer = plain 0; count = length book; out = book ++ replicate (70 - length book) 7 }
