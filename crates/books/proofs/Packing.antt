-- An answer packed into one number is taken apart again by division: each part stays below what the next one counts. And every reader's answer packs,
-- since its place is bounded.
use Prim.Native.Nat.{ℕ, ◌/◌, ◌%◌, ◌^◌, ◌≤◌, ◌<◌}
use mathlib.Core.Path.{◌≡◌, ap}
use mathlib.Core.Bool.{Bool, true, false}
use mathlib.Core.List.{List}
use mathlib.Core.Logic.{⊎_elim}
use native.Mathlib.Omega.{arith}
use borrow.Author.Tests.{eqb-false}
use lib.Dec.{eqb, ltb}
use lib.ListN.{length}
use Rattle.names.specs.Fault.{Fault}
use Rattle.names.proofs.Picking.{pick_ind}
use Rattle.names.proofs.ReadingNumbers.{BlamedBy}
use Rattle.books.specs.Answer.{NumberBy, answer, plain, blaming, packed, Packs}
use Rattle.books.specs.Book.{book_by, book_of}
use Rattle.books.specs.Press.{presses, IsPress}
use Rattle.books.specs.Sheet.{sheet_of}
use Rattle.books.specs.Calls.{sheet_answer, ticket_of}
use Rattle.books.specs.declared.answer.Answer.{Answer}
use Rattle.books.specs.declared.sheet.Sheet.{Sheet}
use Rattle.books.proofs.ReadingBooks.{farthest_book, book-refused-by}
use Rattle.books.proofs.Area.{room_enough}
use Rattle.books.proofs.ReadingSheets.{farthest, sheet-refused, sheet-ticket, no-press-none}
use Rattle.books.proofs.LentEnds.{no-press-first}

-- the parts of a packed answer
pub record Apart (a : Answer) (count n : ℕ) : Type 0 where
  pub number_is : n % 2 ^ 8 ≡ a.number
  pub blamed_is : n / 2 ^ 8 % 2 ^ 4 ≡ a.blamed
  pub place_is : n / 2 ^ 12 % 2 ^ 20 ≡ a.place
  pub count_is : n / 2 ^ 32 ≡ count

pub apart : (a : Answer) (count : ℕ) → Packs a count → Apart a count (packed a count)
apart a count p =
    let number = p.number_fits in
    let blamed = p.blamed_fits in
    let place = p.place_fits in
    record { number_is = omega arith; blamed_is = omega arith; place_is = omega arith; count_is = omega arith }

-- an answer with a number of the table that blames nothing
pub plain-packs : (n count : ℕ) → n < 2 ^ 8 → count < 2 ^ 32 → Packs (plain n) count
plain-packs n count h g = record { number_fits = h; blamed_fits = omega arith; place_fits = omega arith; count_fits = g }

-- a reader's fault in an input: its place is within the input, and it packs
pub record Placed (s : List ℕ) (a : Answer) : Type 0 where
  pub packs : Packs a 0
  pub inside : a.place ≤ length s

pub fault-placed : {Known : ℕ → Type 0} (s : List ℕ) (input limit : ℕ) (f : Fault) → ((n : ℕ) → Known n → n < 2 ^ 8) → input < 2 ^ 4 → limit < 2 ^ 20
    → ((f.number ≡ 0 → ⊥) → BlamedBy Known s limit f) → Placed s (blaming input f)
fault-placed s input limit f few h g b =
    pick_ind (Placed s) (eqb f.number 0) (plain 0) (answer f.number input f.place)
    (λ _. record { packs = plain-packs 0 0 (omega arith) (omega arith); inside = omega arith })
    (λ t. let x = b (eqb-false f.number 0 t) in
    record {
      packs = record { number_fits = few f.number x.known; blamed_fits = h; place_fits = omega (arith, x.near); count_fits = omega arith };
      inside = x.inside;
    })

number-few : (strict : Bool) (n : ℕ) → NumberBy strict n → n < 2 ^ 8
number-few true n h = ⊎_elim (λ l. omega arith) (λ l. omega arith) h
number-few false n h = omega arith

pub book-placed-by : (strict : Bool) (s : List ℕ) (input : ℕ) → input < 2 ^ 4 → Placed s (blaming input (book_by strict s).fault)
book-placed-by strict s input h =
    fault-placed s input farthest_book (book_by strict s).fault (number-few strict) h (omega arith) (λ n. (book-refused-by strict s n).blamed)

pub book-placed : (s : List ℕ) (input : ℕ) → input < 2 ^ 4 → Placed s (blaming input (book_of s).fault)
book-placed = book-placed-by true

-- an answer packs with a count that fits
pub packs-with : {a : Answer} {n : ℕ} (count : ℕ) → Packs a n → count < 2 ^ 32 → Packs a count
packs-with count p h = record { number_fits = p.number_fits; blamed_fits = p.blamed_fits; place_fits = p.place_fits; count_fits = h }

pub sheet-placed : (press : ℕ) (s : List ℕ) (input : ℕ) → input < 2 ^ 4 → Placed s (blaming input (sheet_of press s).fault)
sheet-placed press s input h = fault-placed s input (farthest press) (sheet_of press s).fault (λ n l. omega arith) h (omega (arith, room_enough press)) (λ n. (sheet-refused press s n).blamed)

-- a sheet's ticket fits the count
pub ticket-packs : (press : ℕ) (s : List ℕ) → Packs (blaming 1 (sheet_of press s).fault) (ticket_of press s)
ticket-packs press s = packs-with (ticket_of press s) (sheet-placed press s 1 (omega arith)).packs (omega (arith, sheet-ticket press s))

pub sheet_answer-packs : (press : ℕ) (s : List ℕ) → Packs (sheet_answer press s) (ticket_of press s)
sheet_answer-packs press s =
    pick_ind (λ (a : Answer). Packs a (ticket_of press s)) (ltb press presses) (blaming 1 (sheet_of press s).fault) (plain 21)
    (λ _. ticket-packs press s)
    (λ _. plain-packs 21 (ticket_of press s) (omega arith) (omega (arith, sheet-ticket press s)))

-- where there is no such press, the number is 21 alone
pub no-press-packed : (press : ℕ) (s : List ℕ) → (IsPress press → ⊥) → packed (sheet_answer press s) (ticket_of press s) ≡ 21
no-press-packed press s n =
    let none : ticket_of press s ≡ 0 = ap (λ (x : Sheet). x.ticket) (no-press-none press s n) in
    rw (no-press-first press (λ (x : Answer). x) (blaming 1 (sheet_of press s).fault) n, none)
