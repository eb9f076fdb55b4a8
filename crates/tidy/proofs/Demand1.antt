-- Demand 1, of the call: from any bytes and any slice, which number it answers and exactly when, which input it blames and where, and what a refusal leaves, with the
-- number taken apart as the header does. Each way in which the call ends has its number, and every outcome packs.
use Prim.Native.Nat.{ℕ, ◌≤◌, ◌<◌}
use mathlib.Core.Path.{◌≡◌, refl, ap, subst⁻¹}
use mathlib.Core.Bool.{false}
use mathlib.Core.List.{List}
use mathlib.Core.Logic.{◌↔◌, ◌⊎◌, inl, inr, ⊎_elim}
use native.Mathlib.Omega.{arith}
use lib.ListN.{length}
use Rattle.names.specs.Bytes.{Bytes}
use Rattle.names.specs.Pick.{ReadersNumber}
use Rattle.names.specs.Fault.{Fault}
use Rattle.books.specs.Answer.{answer, answer_in, count_in}
use Rattle.books.specs.Book.{untidy_of, IsUntidy}
use Rattle.books.specs.Lent.{contents_by}
use Rattle.books.specs.SpellBook.{spell_book}
use Rattle.books.specs.declared.answer.Answer.{Answer}
use Rattle.books.proofs.ReadingBooks.{book-refused-by}
use Rattle.drafts.specs.Outcome.{Outcome, Leaves}
use Rattle.drafts.proofs.Outcomes.{Packed, spelled-packs, refused-packs, blamed-packs, read_of, read_off}
use Rattle.tidy.specs.Outcome.{tidying}
use Rattle.tidy.specs.Tidied.{tidied}
use Rattle.tidy.proofs.Endings.{untidy-keeps, StartRewrites, ends}
use Rattle.tidy.proofs.Keeping.{tidied-keeps}

-- A call that was lent a book and a slice answers so, with so many bytes written, and leaves the slice so.
pub record Answered (book out : List ℕ) (a : Answer) (count : ℕ) (left : List ℕ) : Type 0 where
  pub listed : ReadersNumber a.number ⊎ ((a.number ≡ 13) ⊎ (a.number ≡ 17))
  pub faulty : ((1 ≤ a.number) × ReadersNumber a.number) ↔ (IsUntidy book → ⊥)
  -- 17 exactly when the start cannot be rewritten, then 13 exactly when the slice is shorter than the tidied book
  pub seventeen : (a.number ≡ 17) ↔ (IsUntidy book × (StartRewrites (contents_by false book) → ⊥))
  pub thirteen : (a.number ≡ 13) ↔ (IsUntidy book × StartRewrites (contents_by false book) × (length out < length (spell_book (tidied (contents_by false book)))))
  pub zero : (a.number ≡ 0) ↔ (IsUntidy book × StartRewrites (contents_by false book) × (length (spell_book (tidied (contents_by false book))) ≤ length out))
  pub counted : a.number ≡ 0 → count ≡ length (spell_book (tidied (contents_by false book)))
  -- a fault of the book is blamed on it at its place, which is a byte of the book or its end
  pub in_book : (IsUntidy book → ⊥) → (a ≡ answer (untidy_of book).fault.number 1 (untidy_of book).fault.place) × (a.place ≤ length book)
  pub others : IsUntidy book → (a.blamed ≡ 0) × (a.place ≡ 0)
  pub unwritten : (a.number ≡ 0 → ⊥) → (count ≡ 0) × (left ≡ out)

module _ (book out : List ℕ) (bytes : Bytes book) where
  abbrev Obeys : Outcome → Type 0
  Obeys o = Answered book out o.answer o.count o.out

  obeys : Obeys (tidying book out)
  obeys =
      ends Obeys book out bytes
      (record {
        in_book = λ bad.
            let f = (book-refused-by false book bad).blamed in
            let refused : IsUntidy book → ⊥ = λ fine. bad (ap (λ (t : Fault). t.number) fine) in
            record {
              listed = inl f.known;
              faulty = (λ _. refused, λ _. (f.some, f.known));
              seventeen = (λ e. absurd (omega (arith, f.known)), λ x. absurd (refused x.0));
              thirteen = (λ e. absurd (omega (arith, f.known)), λ x. absurd (refused x.0));
              zero = (λ z. absurd (bad z), λ x. absurd (refused x.0));
              counted = λ z. absurd (bad z);
              in_book = λ _. (refl, f.inside);
              others = λ fine. absurd (refused fine);
              unwritten = λ _. (refl, refl);
            };
        no_start = λ fine none.
            record {
              listed = inr (inr refl);
              faulty = (λ x. absurd (omega (arith, x.1)), λ bad. absurd (bad fine));
              seventeen = (λ _. (fine, none), λ _. refl);
              thirteen = (λ e. absurd (omega arith), λ x. absurd (none x.1));
              zero = (λ z. absurd (omega arith), λ x. absurd (none x.1));
              counted = λ z. absurd (omega arith);
              in_book = λ bad. absurd (bad fine);
              others = λ _. (refl, refl);
              unwritten = λ _. (refl, refl);
            };
        no_room = λ fine some short.
            record {
              listed = inr (inl refl);
              faulty = (λ x. absurd (omega (arith, x.1)), λ bad. absurd (bad fine));
              seventeen = (λ e. absurd (omega arith), λ x. absurd (x.1 some));
              thirteen = (λ _. (fine, some, short), λ _. refl);
              zero = (λ z. absurd (omega arith), λ x. absurd (omega (arith, x.2, short)));
              counted = λ z. absurd (omega arith);
              in_book = λ bad. absurd (bad fine);
              others = λ _. (refl, refl);
              unwritten = λ _. (refl, refl);
            };
        with_room = λ fine some room.
            record {
              listed = inl (omega arith);
              faulty = (λ x. absurd (omega (arith, x.0)), λ bad. absurd (bad fine));
              seventeen = (λ e. absurd (omega arith), λ x. absurd (x.1 some));
              thirteen = (λ e. absurd (omega arith), λ x. absurd (omega (arith, x.2, room)));
              zero = (λ _. (fine, some, room), λ _. refl);
              counted = λ _. refl;
              in_book = λ bad. absurd (bad fine);
              others = λ _. (refl, refl);
              unwritten = λ n. absurd (n refl);
            };
      })

  packs : Packed (tidying book out)
  packs =
      let b = contents_by false book in
      ends Packed book out bytes
      (record {
        in_book = blamed-packs false 1 book out (omega arith);
        no_start = λ _ _. refused-packs 17 out (omega arith);
        no_room = λ _ _ _. refused-packs 13 out (omega arith);
        with_room = λ fine some _. spelled-packs (tidied b) out (tidied-keeps b (untidy-keeps book bytes fine) some);
      })

  module _ (left : List ℕ) (r : ℕ) (leaves : Leaves (tidying book out) r left) where
    pub tidy-read : read_of r left ≡ tidying book out
    tidy-read = read_off (tidying book out) left r packs leaves

    pub dv_tidy-answered : Answered book out (answer_in r) (count_in r) left
    dv_tidy-answered = subst⁻¹ Obeys tidy-read obeys

    -- 12 cannot occur: no count of a tidied book is greater than the book's
    pub dv_tidy-never-exceeds : (answer_in r).number ≡ 12 → ⊥
    dv_tidy-never-exceeds e = ⊎_elim (λ few. omega arith) (λ other. ⊎_elim (λ t. omega arith) (λ s. omega arith) other) dv_tidy-answered.listed
