-- What the code tells of a card, as the definition tells it.
use Rattle.std.specs.Prelude.{ℕ, Result, Ok, Err}
use Rattle.books.specs.Answer.{plain}
use Rattle.books.specs.declared.answer.Answer.{Answer}
use Rattle.sizes.specs.declared.calls.CardAnswer.{CardAnswer}

-- the number of its sizes, or what refuses it
abbrev pub told_card : Result ℕ Answer → CardAnswer
told_card (Ok sizes) = record { answer = plain 0; sizes = sizes }
told_card (Err answer) = record { answer = answer; sizes = 0 }
