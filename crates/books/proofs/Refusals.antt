-- Every call that is told a press and lent a book and a sheet refuses them alike, and says so by the numbers 1 to 8, 18 and 21 alone: whichever input has the fault is
-- blamed at its place, and where a call answers a number of its own, all three are accepted and none is blamed.
use Prim.Native.Nat.{ℕ, ◌≤◌}
use mathlib.Core.Path.{◌≡◌, refl, sym, ap, ◌∙◌, subst}
use mathlib.Core.Bool.{Bool, true, false, true≢false}
use mathlib.Core.List.{List}
use mathlib.Core.Logic.{◌↔◌, ◌⊎◌, inl, inr}
use native.Mathlib.Omega.{arith}
use borrow.Author.Tests.{lt-ltb}
use lib.Dec.{eqb, ltb}
use lib.ListN.{length}
use Rattle.names.specs.Pick.{pick}
use Rattle.names.proofs.Tests.{together, neither}
use Rattle.books.specs.Answer.{InputsNumber, Packs}
use Rattle.books.specs.Book.{book_of}
use Rattle.books.specs.Lent.{Accepted}
use Rattle.books.specs.Press.{IsPress}
use Rattle.books.specs.Sheet.{sheet_of}
use Rattle.books.specs.declared.answer.Answer.{Answer}
use Rattle.books.proofs.LentEnds.{blamed_is, accepted-press, Refusal, no_press, in_book, in_sheet}
use Rattle.books.proofs.Packing.{plain-packs, book-placed, sheet-placed}
use Rattle.books.proofs.ReadingBooks.{book-refused}
use Rattle.books.proofs.ReadingSheets.{sheet-refused}

-- ── The numbers ──

-- a number with which a press, a book or a sheet is refused
abbrev pub refusing? : ℕ → Bool
refusing? n = pick (ltb n 9) (ltb 0 n) (pick (eqb n 18) true (eqb n 21))

-- of an input: from 9 on 18 alone
pub not-input : (n : ℕ) → InputsNumber n → 9 ≤ n → (n ≡ 18 → ⊥) → ⊥
not-input n (inl few) h other = omega arith
not-input n (inr e) h other = other e

inputs-refusing : (n : ℕ) → 1 ≤ n → InputsNumber n → refusing? n ≡ true
inputs-refusing n h (inl few) = simp (lt-ltb n 9 (omega arith), lt-ltb 0 n (omega arith))
inputs-refusing n h (inr e) = rw e refl

-- any other number is a call's own: it tells no fault of an input, and not that there is no such press
module _ (n : ℕ) (own : refusing? n ≡ false) where
  own-input : 1 ≤ n → InputsNumber n → ⊥
  own-input h g = true≢false (sym (inputs-refusing n h g) ∙ own)

  own-press : n ≡ 21 → ⊥
  own-press e = true≢false (ap refusing? (sym e) ∙ own)

-- ── What is blamed ──

-- The fault stands in the book: it is blamed at its place, which is a byte of the book or its end.
pub record InBook (book : List ℕ) (number blamed place : ℕ) : Type 0 where
  pub number_is : number ≡ (book_of book).fault.number
  pub place_is : place ≡ (book_of book).fault.place
  pub first : blamed ≡ 1
  pub inside : place ≤ length book

-- The fault stands in the sheet, and the book has none.
pub record InSheet (press : ℕ) (book sheet : List ℕ) (number blamed place : ℕ) : Type 0 where
  pub book_fine : (book_of book).fault.number ≡ 0
  pub number_is : number ≡ (sheet_of press sheet).fault.number
  pub place_is : place ≡ (sheet_of press sheet).fault.place
  pub second : blamed ≡ 2
  pub inside : place ≤ length sheet

-- which of these numbers is answered, and exactly when
pub record Refused (press : ℕ) (book sheet : List ℕ) (number : ℕ) : Type 0 where
  pub no_such_press : (number ≡ 21) ↔ (IsPress press → ⊥)
  pub faulty : ((1 ≤ number) × InputsNumber number) ↔ (IsPress press × (Accepted press book sheet → ⊥))

-- which input is blamed, and where; 16 alone, of a lent tree, has a place that stands in no input
pub record Blames (press : ℕ) (book sheet : List ℕ) (number blamed place : ℕ) : Type 0 where
  pub refused : Refused press book sheet number
  pub faults : 1 ≤ number → InputsNumber number → InBook book number blamed place ⊎ InSheet press book sheet number blamed place
  pub unblamed : ((1 ≤ number) × InputsNumber number → ⊥) → blamed ≡ 0
  pub at_start : ((1 ≤ number) × InputsNumber number → ⊥) → (number ≡ 16 → ⊥) → place ≡ 0

module _ {press : ℕ} {book sheet : List ℕ} where
  -- a call's own number, where all are accepted
  pub own-refused : Accepted press book sheet → (n : ℕ) → refusing? n ≡ false → Refused press book sheet n
  own-refused fine n own = record {
    no_such_press = neither (own-press n own) (λ none. none (accepted-press fine));
    faulty = neither (λ x. own-input n own x.0 x.1) (λ x. x.1 fine);
  }

  pub own-blames : Accepted press book sheet → (n place : ℕ) → refusing? n ≡ false → ((n ≡ 16 → ⊥) → place ≡ 0) → Blames press book sheet n 0 place
  own-blames fine n place own start =
      record { refused = own-refused fine n own; faults = λ h g. absurd (own-input n own h g); unblamed = λ _. refl; at_start = λ _. start }

  faulted : (n blamed place : ℕ) → IsPress press → 1 ≤ n → InputsNumber n → (Accepted press book sheet → ⊥)
      → InBook book n blamed place ⊎ InSheet press book sheet n blamed place → Blames press book sheet n blamed place
  faulted n blamed place is h g bad there =
      record {
        refused = record { no_such_press = neither (λ e. not-input 21 (subst InputsNumber e g) (omega arith) (λ u. omega arith)) (λ none. none is); faulty = together (h, g) (is, bad) };
        faults = λ _ _. there;
        unblamed = λ out. absurd (out (h, g));
        at_start = λ out _. absurd (out (h, g));
      }

  -- ── What a refusal says ──

  pub refusal-bad : {a : Answer} → Refusal press book sheet a → Accepted press book sheet → ⊥
  refusal-bad (no_press none) fine = none (accepted-press fine)
  refusal-bad (in_book is n) fine = n fine.book_fine
  refusal-bad (in_sheet is z n) fine = n fine.sheet_fine

  pub refusal-blames : {a : Answer} → Refusal press book sheet a → Blames press book sheet a.number a.blamed a.place
  refusal-blames (no_press none) =
      let unlisted : InputsNumber 21 → ⊥ = λ g. not-input 21 g (omega arith) (λ u. omega arith) in
      record {
        refused = record { no_such_press = together refl none; faulty = neither (λ x. unlisted x.1) (λ x. none x.0) };
        faults = λ _ g. absurd (unlisted g);
        unblamed = λ _. refl;
        at_start = λ _ _. refl;
      }
  refusal-blames (in_book is n) =
      let f = (book-refused book n).blamed in
      rw (blamed_is 1 (book_of book).fault n)
      (faulted _ 1 _ is f.some f.known (λ fine. n fine.book_fine) (inl (record { number_is = refl; place_is = refl; first = refl; inside = f.inside })))
  refusal-blames (in_sheet is z n) =
      let f = (sheet-refused press sheet n).blamed in
      rw (blamed_is 2 (sheet_of press sheet).fault n)
      (faulted _ 2 _ is f.some (inl f.known) (λ fine. n fine.sheet_fine)
      (inr (record { book_fine = z; number_is = refl; place_is = refl; second = refl; inside = f.inside })))

  -- with a number of the list, whatever else a call has on it, ...
  pub refusal-listed : {a : Answer} {Own : Type 0} → Refusal press book sheet a → InputsNumber a.number ⊎ ((a.number ≡ 21) ⊎ Own)
  refusal-listed (no_press none) = inr (inl refl)
  refusal-listed (in_book is n) = rw (blamed_is 1 (book_of book).fault n) (inl (book-refused book n).blamed.known)
  refusal-listed (in_sheet is z n) = rw (blamed_is 2 (sheet_of press sheet).fault n) (inl (inl (sheet-refused press sheet n).blamed.known))

  refusal-number : {a : Answer} → Refusal press book sheet a → refusing? a.number ≡ true
  refusal-number (no_press none) = refl
  refusal-number (in_book is n) = rw (blamed_is 1 (book_of book).fault n) (let f = (book-refused book n).blamed in inputs-refusing _ f.some f.known)
  refusal-number (in_sheet is z n) = rw (blamed_is 2 (sheet_of press sheet).fault n) (let f = (sheet-refused press sheet n).blamed in inputs-refusing _ f.some (inl f.known))

  -- ... and with no number of its own
  pub refusal-other : {a : Answer} → Refusal press book sheet a → (n : ℕ) → refusing? n ≡ false → a.number ≡ n → ⊥
  refusal-other r n own e = true≢false (sym (refusal-number r) ∙ ap refusing? e ∙ own)

  -- so what such a number is told for, where all are accepted, is not told
  pub refusal-never : {a : Answer} → Refusal press book sheet a → (n : ℕ) → refusing? n ≡ false → {Told : Type 0} → (Told → Accepted press book sheet) → (a.number ≡ n) ↔ Told
  refusal-never r n own fine = neither (refusal-other r n own) (λ x. refusal-bad r (fine x))

  pub refusal-packs : {a : Answer} → Refusal press book sheet a → Packs a 0
  refusal-packs (no_press none) = plain-packs 21 0 (omega arith) (omega arith)
  refusal-packs (in_book is n) = (book-placed book 1 (omega arith)).packs
  refusal-packs (in_sheet is z n) = (sheet-placed press sheet 2 (omega arith)).packs
