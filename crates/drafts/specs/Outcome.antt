-- What a call that writes a book answers and leaves.
use Rattle.std.specs.Prelude.{ℕ, ◌≡◌, Bool, true, List, leb, length}
use Rattle.names.specs.Pick.{pick}
use Rattle.names.specs.Put.{put}
use Rattle.books.specs.Answer.{plain, packed}
use Rattle.books.specs.Contents.{Contents}
use Rattle.books.specs.Lent.{lent_book_by}
use Rattle.books.specs.SpellBook.{spell_book}
use Rattle.books.specs.declared.answer.Answer.{Answer}

-- the answer, the bytes written, and the output slice
pub record Outcome : Type 0 where
  pub answer : Answer
  pub count : ℕ
  pub out : List ℕ

-- a refusal writes nothing
abbrev pub refused : Answer → List ℕ → Outcome
refused a out = record { answer = a; count = 0; out = out }

-- the book of these contents at the front of the slice
abbrev pub spelled : Contents → List ℕ → Outcome
spelled c out = record { answer = plain 0; count = length (spell_book c); out = put out 0 (spell_book c) }

-- ... or 13 where the slice is shorter than its spelling
unfoldable pub written : Contents → List ℕ → Outcome
written c out = pick (leb (length (spell_book c)) (length out)) (spelled c out) (refused (plain 13) out)

-- a lent book: where it is refused nothing is written, and else its contents go on
unfoldable pub lent_by : Bool → ℕ → List ℕ → List ℕ → (Contents → Outcome) → Outcome
lent_by strict input s out go = lent_book_by strict input s (λ a. refused a out) go

abbrev pub lent : ℕ → List ℕ → List ℕ → (Contents → Outcome) → Outcome
lent = lent_by true

-- a call's number, and the slice as it leaves it, are those of an outcome
pub record Leaves (o : Outcome) (r : ℕ) (out : List ℕ) : Type 0 where
  pub answers : r ≡ packed o.answer o.count
  pub leaves : out ≡ o.out
