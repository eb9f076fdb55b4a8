-- Demand 1, of the call: from any bytes and any slice, which number it answers and exactly when, which input it blames and where, and what a refusal leaves. Stated on
-- the parts of the answer, and for the C host on the number taken apart as the header does.
use Prim.Native.Nat.{ℕ, ◌/◌, ◌%◌, ◌^◌, ◌≤◌, ◌<◌}
use mathlib.Core.Path.{◌≡◌, refl, subst}
use mathlib.Core.List.{List}
use mathlib.Core.Logic.{◌↔◌, ◌⊎◌, inl, inr, ⊎_elim}
use native.Mathlib.Decide.{ℕ_discrete}
use native.Mathlib.Omega.{arith}
use borrow.Author.Tests.{ne_eqb}
use lib.ListN.{length}
use Rattle.names.proofs.Tests.{lt-or-le, together, neither}
use Rattle.books.specs.Answer.{InputsNumber}
use Rattle.books.specs.Book.{book_of}
use Rattle.books.specs.Lent.{Fine}
use Rattle.books.specs.Press.{greatest_of, presses, IsPress}
use Rattle.books.proofs.Packing.{apart}
use Rattle.books.proofs.ReadingBooks.{book-refused}
use Rattle.books.proofs.Refusals.{not-input}
use Rattle.sizes.specs.declared.calls.CardAnswer.{CardAnswer}
use Rattle.sizes.specs.Outcome.{Outcome, size_card, Answers, Leaves}
use Rattle.sizes.proofs.Answering.{press-first, book-second, no_room, with_room, card-packs}

-- A call that was lent a book and a card slice answers so, with so many sizes, and leaves the slice so.
pub record Answered (press : ℕ) (book slice : List ℕ) (number blamed place count : ℕ) (left : List ℕ) : Type 0 where
  pub listed : InputsNumber number ⊎ (number ≡ 13) ⊎ (number ≡ 21)
  pub no_press : (number ≡ 21) ↔ (IsPress press → ⊥)
  pub zero : (number ≡ 0) ↔ (IsPress press × Fine book × (greatest_of press ≤ length slice))
  pub faulty : ((1 ≤ number) × InputsNumber number) ↔ (IsPress press × (Fine book → ⊥))
  pub thirteen : (number ≡ 13) ↔ (IsPress press × Fine book × (length slice < greatest_of press))
  -- a fault of the book is blamed on it at its place, which is a byte of the book or its end
  pub in_book : IsPress press → (Fine book → ⊥) → (number ≡ (book_of book).fault.number) × (blamed ≡ 1) × (place ≡ (book_of book).fault.place) × (place ≤ length book)
  pub others : (IsPress press → ⊥) ⊎ Fine book → (blamed ≡ 0) × (place ≡ 0)
  pub unwritten : (number ≡ 0 → ⊥) → (count ≡ 0) × (left ≡ slice)

module _ (press : ℕ) (book slice : List ℕ) where
  abbrev Obeys : Outcome → Type 0
  Obeys o = Answered press book slice o.answer.number o.answer.blamed o.answer.place o.sizes o.slice

  other-press : (IsPress press → ⊥) → Obeys (size_card press book slice)
  other-press none =
      rw (press-first press book slice none) (record {
        listed = inr (inr refl);
        no_press = together refl none;
        zero = neither (λ z. omega arith) (λ x. none x.0);
        faulty = neither (λ x. not-input 21 x.1 (omega arith) (λ u. omega arith)) (λ x. none x.0);
        thirteen = neither (λ e. omega arith) (λ x. none x.0);
        in_book = λ is. absurd (none is);
        others = λ _. (refl, refl);
        unwritten = λ _. (refl, refl);
      })

  refuses : IsPress press → (Fine book → ⊥) → Obeys (size_card press book slice)
  refuses is bad =
      let f = (book-refused book bad).blamed in
      rw (book-second press book slice is bad, ne_eqb (book_of book).fault.number 0 bad) (record {
        listed = inl f.known;
        no_press = neither (λ e. not-input 21 (subst InputsNumber e f.known) (omega arith) (λ u. omega arith)) (λ none. none is);
        zero = neither bad (λ x. bad x.1);
        faulty = together (f.some, f.known) (is, bad);
        thirteen = neither (λ e. not-input 13 (subst InputsNumber e f.known) (omega arith) (λ u. omega arith)) (λ x. bad x.1);
        in_book = λ _ _. (refl, refl, refl, f.inside);
        others = ⊎_elim (λ none. absurd (none is)) (λ z. absurd (bad z));
        unwritten = λ _. (refl, refl);
      })

  module _ (is : IsPress press) (fine : Fine book) where
    lacks : length slice < greatest_of press → Obeys (size_card press book slice)
    lacks h =
        rw (no_room press book slice is fine h) (record {
          listed = inr (inl refl);
          no_press = neither (λ e. omega arith) (λ none. none is);
          zero = neither (λ z. omega arith) (λ x. omega (arith, x.2));
          faulty = neither (λ x. not-input 13 x.1 (omega arith) (λ u. omega arith)) (λ x. x.1 fine);
          thirteen = together refl (is, fine, h);
          in_book = λ _ bad. absurd (bad fine);
          others = λ _. (refl, refl);
          unwritten = λ _. (refl, refl);
        })

    writes : greatest_of press ≤ length slice → Obeys (size_card press book slice)
    writes h =
        rw (with_room press book slice is fine h) (record {
          listed = inl (inl (omega arith));
          no_press = neither (λ e. omega arith) (λ none. none is);
          zero = together refl (is, fine, h);
          faulty = neither (λ x. omega (arith, x.0)) (λ x. x.1 fine);
          thirteen = neither (λ z. omega arith) (λ x. omega (arith, x.2));
          in_book = λ _ bad. absurd (bad fine);
          others = λ _. (refl, refl);
          unwritten = λ n. absurd (n refl);
        })

  pub obeys : Obeys (size_card press book slice)
  obeys = ⊎_elim (λ is. go is (ℕ_discrete (book_of book).fault.number 0)) (λ past. other-press (λ is. omega arith)) (lt-or-le press presses)
    where
      go : IsPress press → Dec (Fine book) → Obeys (size_card press book slice)
      go is (yes fine) = ⊎_elim (lacks is fine) (writes is fine) (lt-or-le (length slice) (greatest_of press))
      go is (no bad) = refuses is bad

  -- ── The theorems ──

  pub size_card-answered : (r : CardAnswer) (left : List ℕ) → Answers (size_card press book slice) r left
      → Answered press book slice r.answer.number r.answer.blamed r.answer.place r.sizes left
  size_card-answered r left a = rw (a.answers, a.counts, a.leaves) obeys

  pub dv_size_card-answered : (r : ℕ) (left : List ℕ) → Leaves (size_card press book slice) r left
      → Answered press book slice (r % 2 ^ 8) (r / 2 ^ 8 % 2 ^ 4) (r / 2 ^ 12 % 2 ^ 20) (r / 2 ^ 32) left
  dv_size_card-answered r left l =
      let o = size_card press book slice in
      let parts = apart o.answer o.sizes (card-packs press book slice) in
      rw (l.answers, l.leaves) (rw (parts.number_is, parts.blamed_is, parts.place_is, parts.count_is) obeys)
