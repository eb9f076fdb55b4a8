-- What the code tells of a recolouring, as the definitions tell it.
use Rattle.std.specs.Prelude.{ℕ, Result, Ok, Err}
use Rattle.books.specs.Answer.{plain}
use Rattle.books.specs.Reply.{number_of}
use Rattle.books.specs.declared.answer.Answer.{Answer}
use Rattle.books.specs.declared.reply.Reply.{Reply}

-- what lacks, as the number that is answered: 0 where nothing does
abbrev pub told_lack : Result (Unit {0}) Reply → ℕ
told_lack (Ok _) = 0
told_lack (Err lack) = number_of lack

-- what the sheet's table answers, or what refuses the recolouring
abbrev pub told_answer : Result Reply Answer → Answer
told_answer (Ok reply) = plain (number_of reply)
told_answer (Err answer) = answer
