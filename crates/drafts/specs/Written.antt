-- What writing a book answers.
use Rattle.std.specs.Prelude.{ℕ, Result, Ok, Err}
use Rattle.drafts.specs.declared.writing.Unwritten.{Unwritten}
use Rattle.drafts.specs.declared.writing.Unwritten.TheVariants.{TooMany, NoRoom}

-- 0 with the bytes written, or the number of what is amiss with 0
pub record Written : Type 0 where
  pub number : ℕ
  pub count : ℕ

-- the number that a call answers
abbrev pub number_of : Unwritten → ℕ
number_of TooMany = 12
number_of NoRoom = 13

-- the result of the code, told so
abbrev pub told_written : Result ℕ Unwritten → Written
told_written (Ok count) = record { number = 0; count = count }
told_written (Err why) = record { number = number_of why; count = 0 }
