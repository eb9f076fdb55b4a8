-- Demand 1, of the calls: from any press, any bytes and any slices, which number is answered and exactly when, which input is blamed and where, and what is
-- left. Stated on the parts of the answer; `CalledFromC` has it on the number that the C host takes apart.
use Prim.Native.Nat.{ℕ, ◌≤◌, ◌<◌}
use mathlib.Core.Path.{◌≡◌, refl, subst}
use mathlib.Core.List.{List, ◌++◌}
use mathlib.Core.Logic.{◌↔◌, ◌⊎◌, inl, inr, ⊎_elim}
use native.Mathlib.Omega.{arith}
use borrow.Author.Tests.{ne_eqb}
use lib.Dec.{eqb}
use lib.ListN.{length, drop, replicate}
use Rattle.names.specs.Pick.{pick}
use Rattle.names.proofs.Tests.{together, neither}
use Rattle.books.specs.Answer.{InputsNumber, Packs}
use Rattle.books.specs.Book.{book_of}
use Rattle.books.specs.Lent.{Fine}
use Rattle.books.specs.Press.{IsPress}
use Rattle.books.proofs.Packing.{plain-packs, book-placed, fault-placed}
use Rattle.books.proofs.ReadingBooks.{book-refused}
use Rattle.books.proofs.Refusals.{not-input}
use Rattle.runs.specs.Run.{most_bytes, framing, sheets_of}
use Rattle.runs.specs.Figures.{work_room, figures_of, no_figures}
use Rattle.runs.specs.Outcome.{Outcome, refused, reported, report, Answers}
use Rattle.runs.specs.declared.calls.RunReport.{RunReport}
use Rattle.runs.specs.declared.figures.Figures.{Figures}
use Rattle.runs.proofs.ReportingRuns.{Ways, refusing-ends}
use Rattle.runs.proofs.WalkingRuns.{framing-blamed}

abbrev pub Framed : List ℕ → Type 0
Framed run = (framing run).number ≡ 0

-- A call that was told a press and lent a book, a run and a work slice answers so, with these figures, and leaves the slice so.
pub record Answered (press : ℕ) (book run work : List ℕ) (number blamed place : ℕ) (figures : Figures) (left : List ℕ) : Type 0 where
  pub listed : InputsNumber number ⊎ (number ≡ 9) ⊎ (number ≡ 21)
  pub no_press : (number ≡ 21) ↔ (IsPress press → ⊥)
  pub zero : (number ≡ 0) ↔ (IsPress press × Fine book × Framed run × (work_room press ≤ length work))
  pub nine : (number ≡ 9) ↔ (IsPress press × Fine book × Framed run × (length work < work_room press))
  -- on a press, a fault of the book is blamed on it at its place, which is a byte of the book or its end
  pub in_book : IsPress press → (Fine book → ⊥) → (number ≡ (book_of book).fault.number) × (blamed ≡ 1) × (place ≡ (book_of book).fault.place) × (place ≤ length book)
  -- then a fault of the framing, on the run
  pub in_run : IsPress press → Fine book → (Framed run → ⊥) → (number ≡ (framing run).number) × (blamed ≡ 2) × (place ≡ (framing run).place) × (place ≤ length run)
  pub others : (IsPress press → ⊥) ⊎ (Fine book × Framed run) → (blamed ≡ 0) × (place ≡ 0)
  pub unwritten : (number ≡ 0 → ⊥) → (figures ≡ no_figures) × (left ≡ work)
  pub counted : number ≡ 0 → (figures ≡ figures_of press book (sheets_of run)) × (left ≡ replicate (work_room press) 0 ++ drop (work_room press) work)

module _ (press : ℕ) (book run work : List ℕ) where
  abbrev Obeys : Outcome → Type 0
  Obeys o = Answered press book run work o.answer.number o.answer.blamed o.answer.place o.figures o.entries

  abbrev o : Outcome
  o = report press book run work

  -- what holds of each way down the call
  ends : (P : Outcome → Type 0) → Ways press (book_of book).fault run (length work) (λ a. P (pick (eqb a.number 0) (reported press book run work) (refused a work))) → P o
  unfolding report
  ends P ways = refusing-ends press (book_of book).fault run (length work) _ ways

  pub obeys : Obeys o
  obeys =
      ends Obeys
      (record {
        no_press = λ none.
            record {
              listed = inr (inr refl);
              no_press = together refl none;
              zero = neither (λ z. omega arith) (λ x. none x.0);
              nine = neither (λ e. omega arith) (λ x. none x.0);
              in_book = λ is. absurd (none is);
              in_run = λ is. absurd (none is);
              others = λ _. (refl, refl);
              unwritten = λ _. (refl, refl);
              counted = λ z. absurd (omega arith);
            };
        in_book = λ is bad. let f = (book-refused book bad).blamed in
            rw (ne_eqb (book_of book).fault.number 0 bad)
            (record {
              listed = inl f.known;
              no_press = neither (λ e. not-input 21 (subst InputsNumber e f.known) (omega arith) (λ u. omega arith)) (λ none. none is);
              zero = neither bad (λ x. bad x.1);
              nine = neither (λ e. not-input 9 (subst InputsNumber e f.known) (omega arith) (λ u. omega arith)) (λ x. bad x.1);
              in_book = λ _ _. (refl, refl, refl, f.inside);
              in_run = λ _ z. absurd (bad z);
              others = ⊎_elim (λ none. absurd (none is)) (λ z. absurd (bad z.0));
              unwritten = λ _. (refl, refl);
              counted = λ z. absurd (bad z);
            });
        in_run = λ is fine bad. let f = framing-blamed run bad in
            rw (ne_eqb (framing run).number 0 bad)
            (record {
              listed = inl (inl f.known);
              no_press = neither (λ e. omega (arith, f.known)) (λ none. none is);
              zero = neither bad (λ x. bad x.2);
              nine = neither (λ e. omega (arith, f.known)) (λ x. bad x.2);
              in_book = λ _ b. absurd (b fine);
              in_run = λ _ _ _. (refl, refl, refl, f.inside);
              others = ⊎_elim (λ none. absurd (none is)) (λ z. absurd (bad z.1));
              unwritten = λ _. (refl, refl);
              counted = λ z. absurd (bad z);
            });
        short_work = λ is fine framed h.
            record {
              listed = inr (inl refl);
              no_press = neither (λ e. omega arith) (λ none. none is);
              zero = neither (λ z. omega arith) (λ x. omega (arith, x.3));
              nine = together refl (is, fine, framed, h);
              in_book = λ _ b. absurd (b fine);
              in_run = λ _ _ b. absurd (b framed);
              others = λ _. (refl, refl);
              unwritten = λ _. (refl, refl);
              counted = λ z. absurd (omega arith);
            };
        nothing = λ g.
            record {
              listed = inl (inl (omega arith));
              no_press = neither (λ e. omega arith) (λ none. none g.on_press);
              zero = together refl (g.on_press, g.book_fine, g.run_fine, g.work_long);
              nine = neither (λ z. omega arith) (λ x. omega (arith, x.3, g.work_long));
              in_book = λ _ b. absurd (b g.book_fine);
              in_run = λ _ _ b. absurd (b g.run_fine);
              others = λ _. (refl, refl);
              unwritten = λ n. absurd (n refl);
              counted = λ _. (refl, refl);
            };
      })

  pub report-packs : Packs o.answer 0
  report-packs =
      ends (λ (x : Outcome). Packs x.answer 0)
      (record {
        no_press = λ _. plain-packs 21 0 (omega arith) (omega arith);
        in_book = λ _ n. let e = ne_eqb (book_of book).fault.number 0 n in rw e (rw e at (book-placed book 1 (omega arith)).packs);
        in_run = λ _ _ n. let e = ne_eqb (framing run).number 0 n in
            rw e (rw e at (fault-placed run 2 most_bytes (framing run) (λ n l. omega arith) (omega arith) (omega arith) (λ m. framing-blamed run m)).packs);
        short_work = λ _ _ _ _. plain-packs 9 0 (omega arith) (omega arith);
        nothing = λ _. plain-packs 0 0 (omega arith) (omega arith);
      })

  -- ── The theorems ──

  pub report-answered : (r : RunReport) (left : List ℕ) → Answers (report press book run work) r left
      → Answered press book run work r.answer.number r.answer.blamed r.answer.place r.figures left
  report-answered r left a = rw (a.answers, a.figures, a.leaves) obeys
