-- What the call answers and leaves, from the bytes of the lent book and the entries of the lent card slice.
use Rattle.std.specs.Prelude.{ℕ, ◌≡◌, List, ◌++◌, ltb, length, drop}
use Rattle.names.specs.Pick.{pick}
use Rattle.books.specs.Answer.{plain, packed}
use Rattle.books.specs.Contents.{Contents}
use Rattle.books.specs.Lent.{on_press, lent_book}
use Rattle.books.specs.Press.{greatest_of}
use Rattle.books.specs.declared.answer.Answer.{Answer}
use Rattle.sizes.specs.declared.calls.CardAnswer.{CardAnswer}
use Rattle.sizes.specs.Card.{card, sizes_of}

-- the answer, the number of sizes, and the card slice
pub record Outcome : Type 0 where
  pub answer : Answer
  pub sizes : ℕ
  pub slice : List ℕ

-- a refusal writes nothing, and the number of sizes is 0
abbrev pub refused : Answer → List ℕ → Outcome
refused a slice = record { answer = a; sizes = 0; slice = slice }

-- the card of a family on a press stands at the front of the slice, and the slice beyond is as it was
abbrev pub carded : ℕ → Contents → List ℕ → Outcome
carded press b slice =
    let most = greatest_of press in
    record { answer = plain 0; sizes = length (sizes_of b most); slice = card b most ++ drop most slice }

-- 13 where the slice is shorter than the card
unfoldable pub roomed : ℕ → Contents → List ℕ → Outcome
roomed press b slice = pick (ltb (length slice) (greatest_of press)) (refused (plain 13) slice) (carded press b slice)

-- 21 where there is no such press, then the book's fault
unfoldable pub size_card : ℕ → List ℕ → List ℕ → Outcome
size_card press book slice =
    on_press press (λ a. refused a slice) (lent_book 1 book (λ a. refused a slice) (λ b. roomed press b slice))

-- what the call answers, and the slice as it leaves it, are those of an outcome
pub record Answers (o : Outcome) (r : CardAnswer) (slice : List ℕ) : Type 0 where
  pub answers : r.answer ≡ o.answer
  pub counts : r.sizes ≡ o.sizes
  pub leaves : slice ≡ o.slice

-- the same of the number that a C host gets
pub record Leaves (o : Outcome) (r : ℕ) (slice : List ℕ) : Type 0 where
  pub answers : r ≡ packed o.answer o.sizes
  pub leaves : slice ≡ o.slice
