-- What a call of a combination answers and leaves, from the bytes of the lent books and of the output slice.
use Rattle.std.specs.Prelude.{List, ℕ}
use Rattle.names.specs.Pick.{pick}
use Rattle.books.specs.Answer.{plain}
use Rattle.books.specs.Contents.{Contents}
use Rattle.drafts.specs.Outcome.{Outcome, refused, written, lent}
use Rattle.families.specs.Limits.{within_limits?}

-- the book of these contents, or 13; 12 where they exceed the limits
unfoldable pub made : Contents → List ℕ → Outcome
made c out = pick (within_limits? c) (written c out) (refused (plain 12) out)

-- a combination of one book
abbrev pub on_one : (Contents → Contents) → List ℕ → List ℕ → Outcome
on_one op book out = lent 1 book out (λ f. made (op f) out)

-- a combination of two: the first book is read, then the second
abbrev pub on_second : (Contents → Contents) → List ℕ → List ℕ → Outcome
on_second op second out = lent 2 second out (λ g. made (op g) out)

abbrev pub on_two : (Contents → Contents → Contents) → List ℕ → List ℕ → List ℕ → Outcome
on_two op first second out = lent 1 first out (λ f. on_second (op f) second out)
