-- What the number of a call tells.
use Rattle.std.specs.Prelude.{ℕ, ◌≤◌, ◌<◌, ◌≡◌, List, ◌↔◌, ◌⊎◌, length}
use Rattle.books.specs.Contents.{Contents}
use Rattle.books.specs.Book.{book_of}
use Rattle.books.specs.SpellBook.{spell_book}
use Rattle.books.specs.Answer.{InputsNumber, answer}
use Rattle.books.specs.declared.answer.Answer.{Answer}
use Rattle.families.specs.Limits.{WithinLimits}

-- the answer is the fault of the book s, lent as this input, at a place within it
pub record Blames (input : ℕ) (s : List ℕ) (a : Answer) : Type 0 where
  pub fault-is : a ≡ answer (book_of s).fault.number input (book_of s).fault.place
  pub inside : a.place ≤ length s

-- Demand 1, whatever was lent: 1 to 8 and 18 tell a fault of a lent book, and no other number blames one; a refusal writes nothing
pub record Answered (Faulty : Answer → Type 0) (out left : List ℕ) (a : Answer) (count : ℕ) : Type 0 where
  pub one_of : InputsNumber a.number ⊎ ((a.number ≡ 12) ⊎ (a.number ≡ 13))
  pub faulty : 1 ≤ a.number → InputsNumber a.number → Faulty a
  pub faultless : (a.number ≡ 0) ⊎ (InputsNumber a.number → ⊥) → (a.blamed ≡ 0) × (a.place ≡ 0)
  pub refusal : (a.number ≡ 0 → ⊥) → (count ≡ 0) × (left ≡ out)

-- Demand 3, of accepted books: 12 exactly where the combination c exceeds the limits, 13 exactly where it does not and the slice is shorter than
-- its spelling, and else 0 with the length of that spelling
pub record WhichNumber (c : Contents) (out : List ℕ) (number count : ℕ) : Type 0 where
  pub twelve : (number ≡ 12) ↔ (WithinLimits c → ⊥)
  pub thirteen : (number ≡ 13) ↔ (WithinLimits c × (length out < length (spell_book c)))
  pub zero : (number ≡ 0) ↔ (WithinLimits c × (length (spell_book c) ≤ length out))
  pub counted : number ≡ 0 → count ≡ length (spell_book c)
