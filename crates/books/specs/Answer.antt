-- What a call answers, and the one number that a C host gets.
use Rattle.std.specs.Prelude.{ℕ, ◌+◌, ◌*◌, ◌/◌, ◌%◌, ◌^◌, ◌<◌, ◌≡◌, Bool, true, false, ◌⊎◌, eqb}
use Rattle.names.specs.Pick.{pick, ReadersNumber}
use Rattle.names.specs.Fault.{Fault}
use Rattle.books.specs.declared.answer.Answer.{Answer}

-- a number that reading a book gives: 18, an equal rule stood earlier, is given by a strict reader alone
abbrev pub NumberBy : Bool → ℕ → Type 0
NumberBy true n = ReadersNumber n ⊎ (n ≡ 18)
NumberBy false n = ReadersNumber n

-- a number that reading a lent input gives, in every call but tidying
abbrev pub InputsNumber : ℕ → Type 0
InputsNumber = NumberBy true

abbrev pub answer : ℕ → ℕ → ℕ → Answer
answer n b p = record { number = n; blamed = b; place = p }

-- a number that blames no input
abbrev pub plain : ℕ → Answer
plain n = answer n 0 0

-- a reader's fault in an input; no fault blames nothing
abbrev pub blaming : ℕ → Fault → Answer
blaming input f = pick (eqb f.number 0) (plain 0) (answer f.number input f.place)

-- number, blamed input, place and the call's own count, from the lowest bits up, each cut to its bits
abbrev pub packed : Answer → ℕ → ℕ
packed a count = a.number + 2 ^ 8 * (a.blamed % 2 ^ 4) + 2 ^ 12 * (a.place % 2 ^ 20) + 2 ^ 32 * (count % 2 ^ 32)

-- what each part must keep, so that nothing is cut and the number can be taken apart again: every call's answer does
pub record Packs (a : Answer) (count : ℕ) : Type 0 where
  pub number_fits : a.number < 2 ^ 8
  pub blamed_fits : a.blamed < 2 ^ 4
  pub place_fits : a.place < 2 ^ 20
  pub count_fits : count < 2 ^ 32

-- the answer and the count, taken apart as the C header does
abbrev pub answer_in : ℕ → Answer
answer_in r = answer (r % 2 ^ 8) (r / 2 ^ 8 % 2 ^ 4) (r / 2 ^ 12 % 2 ^ 20)

abbrev pub count_in : ℕ → ℕ
count_in r = r / 2 ^ 32
