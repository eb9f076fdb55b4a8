-- The ways down the call: 21 comes first where there is no such press, then a refused book, then the run's framing, then the work slice, and else the
-- sheets are counted and the work slice is cleared. A slice of zeros holds no figures.
use Prim.Native.Nat.{ℕ, ◌≤◌, ◌<◌}
use mathlib.Core.Path.{◌≡◌, refl, sym, ap, ◌∙◌}
use mathlib.Core.List.{List, ◌++◌}
use native.Mathlib.Omega.{arith}
use borrow.Author.Tests.{eq-eqb, ne_eqb, lt-ltb, le-ltb, eqb-true, eqb-false, ltb-true, ltb-false}
use lib.Dec.{eqb, ltb}
use lib.ListN.{length, take, drop, replicate}
use lib.Seq.{length-take-le}
use Rattle.names.specs.Counted.{each}
use Rattle.names.specs.Fault.{Fault}
use Rattle.names.proofs.Picking.{pick_ind}
use Rattle.books.specs.Answer.{answer, plain, blaming, packed}
use Rattle.books.specs.Book.{book_of}
use Rattle.books.specs.Press.{presses, IsPress}
use Rattle.books.specs.declared.answer.Answer.{Answer}
use Rattle.books.proofs.LentEnds.{blamed_is, press-ends, no-press-first}
use Rattle.runs.specs.Run.{framing, sheets_of}
use Rattle.runs.specs.Figures.{work_room, figures_of, no_figures, figures_long, in_a_row}
use Rattle.runs.specs.Outcome.{Outcome, refused_run, refusal, refused, reported, report, Answers, Told, told, run_report, Leaves}
use Rattle.runs.specs.declared.figures.Figures.{Figures}
use Rattle.runs.specs.inner.Adding.{standing}
use Rattle.runs.specs.inner.Reporting.{refusing, Counts, telling}

-- ── What is refused ──

module _ (press : ℕ) (f : Fault) (run : List ℕ) (entries : ℕ) where
  pub press-first : (IsPress press → ⊥) → refusing press f run entries ≡ plain 21
  press-first n = no-press-first press (λ a. a) _ n

  module _ (is : IsPress press) where
    pub book-second : (f.number ≡ 0 → ⊥) → refusing press f run entries ≡ blaming 1 f
    book-second n = rw (lt-ltb press presses is, ne_eqb f.number 0 n) refl

    module _ (z : f.number ≡ 0) where
      pub run-third : ((framing run).number ≡ 0 → ⊥) → refusing press f run entries ≡ blaming 2 (framing run)
      unfolding refused_run
      run-third n = rw (lt-ltb press presses is, eq-eqb f.number 0 z, ne_eqb (framing run).number 0 n) refl

      module _ (y : (framing run).number ≡ 0) where
        pub work-fourth : entries < work_room press → refusing press f run entries ≡ plain 9
        unfolding refused_run
        work-fourth h = rw (lt-ltb press presses is, eq-eqb f.number 0 z, eq-eqb (framing run).number 0 y, lt-ltb entries (work_room press) h) refl

        pub nothing-refused : work_room press ≤ entries → refusing press f run entries ≡ plain 0
        unfolding refused_run
        nothing-refused h = rw (lt-ltb press presses is, eq-eqb f.number 0 z, eq-eqb (framing run).number 0 y, le-ltb entries (work_room press) h) refl

  pub record Granted : Type 0 where
    pub on_press : IsPress press
    pub book_fine : f.number ≡ 0
    pub run_fine : (framing run).number ≡ 0
    pub work_long : work_room press ≤ entries

  -- what holds of each way holds of what is refused
  pub record Ways (P : Answer → Type 0) : Type 0 where
    pub no_press : (IsPress press → ⊥) → P (plain 21)
    pub in_book : IsPress press → (f.number ≡ 0 → ⊥) → P (answer f.number 1 f.place)
    pub in_run : IsPress press → f.number ≡ 0 → ((framing run).number ≡ 0 → ⊥) → P (answer (framing run).number 2 (framing run).place)
    pub short_work : IsPress press → f.number ≡ 0 → (framing run).number ≡ 0 → entries < work_room press → P (plain 9)
    pub nothing : Granted → P (plain 0)

  pub refusing-ends : (P : Answer → Type 0) → Ways P → P (refusing press f run entries)
  unfolding refused_run
  refusing-ends P ways =
      press-ends P (λ a. a) press _ ways.no_press (λ is.
      pick_ind P (eqb f.number 0) (refused_run (work_room press) run entries) (blaming 1 f)
      (λ z. let fine = eqb-true f.number 0 z in
      pick_ind P (eqb (framing run).number 0) _ (blaming 2 (framing run))
      (λ y. let good = eqb-true (framing run).number 0 y in
      pick_ind P (ltb entries (work_room press)) (plain 9) (plain 0)
      (λ h. ways.short_work is fine good (ltb-true entries (work_room press) h))
      (λ h. ways.nothing (record { on_press = is; book_fine = fine; run_fine = good; work_long = ltb-false entries (work_room press) h })))
      (λ n. let bad = eqb-false (framing run).number 0 n in rw (blamed_is 2 (framing run) bad) (ways.in_run is fine bad)))
      (λ n. let bad = eqb-false f.number 0 n in rw (blamed_is 1 f bad) (ways.in_book is bad)))

  pub granted : (refusing press f run entries).number ≡ 0 → Granted × (refusing press f run entries ≡ plain 0)
  granted =
      refusing-ends (λ a. a.number ≡ 0 → Granted × (a ≡ plain 0))
      (record {
        no_press = λ _ z. absurd (omega arith);
        in_book = λ _ n z. absurd (n z);
        in_run = λ _ _ n z. absurd (n z);
        short_work = λ _ _ _ _ z. absurd (omega arith);
        nothing = λ g _. (g, refl);
      })

-- ── What is reported ──

-- so many entries at the front of a slice were cleared
pub front-cleared : (n : ℕ) (s front : List ℕ) → n ≤ length s → front ≡ replicate (length (take n s)) 0 → front ++ drop n s ≡ replicate n 0 ++ drop n s
front-cleared n s front h e = rw (e, length-take-le n s h)

-- a slice that was cleared holds no figures
pub cleared : (figures start : List ℕ) → start ≡ replicate figures_long 0 ++ drop figures_long figures → start ≡ in_a_row no_figures ++ drop figures_long start
unfolding in_a_row
cleared figures start e = e ∙ ap (λ (l : List ℕ). replicate figures_long 0 ++ l) (sym (ap (drop figures_long) e))

module _ (press : ℕ) (book run entries : List ℕ) where
  -- from a slice that was cleared first
  module _ (figures start : List ℕ) (clear : start ≡ replicate figures_long 0 ++ drop figures_long figures) (a : Answer) (f : Fault) (read : f ≡ (book_of book).fault)
      (is : a ≡ refusing press f run (length entries)) where
    answer-is : a ≡ refusal press book run entries
    answer-is = is ∙ ap (λ (e : Fault). refusing press e run (length entries)) read

    pub reports-refusal : (a.number ≡ 0 → ⊥) → telling a entries start ≡ told (report press book run entries) figures
    unfolding report told in_a_row
    reports-refusal n =
        let none : (refusal press book run entries).number ≡ 0 → ⊥ = λ z. n (ap (λ (b : Answer). b.number) answer-is ∙ z) in
        rw (ne_eqb (refusal press book run entries).number 0 none) (λ i. telling (answer-is i) entries (clear i))

    pub reports-run : a.number ≡ 0 → (work left after : List ℕ) → Counts press book (sheets_of run) entries work start left
        → {n : ℕ} → n ≡ work_room press → after ≡ replicate n 0 ++ drop n work → telling a after left ≡ told (report press book run entries) figures
    unfolding report told
    reports-run z work left after c enough e =
        let y : (refusal press book run entries).number ≡ 0 = ap (λ (b : Answer). b.number) (sym answer-is) ∙ z in
        let answers = answer-is ∙ (granted press (book_of book).fault run (length entries) y).1 in
        let works = (rw enough at e) ∙ ap (λ (l : List ℕ). replicate (work_room press) 0 ++ l) c.work_same in
        let counts = c.counts ∙ ap (λ (l : List ℕ). in_a_row (figures_of press book (sheets_of run)) ++ drop figures_long l) clear in
        rw (eq-eqb (refusal press book run entries).number 0 y) (λ i. telling (answers i) (works i) (counts i))

  -- the figures by name
  standing-figures : (rest : List ℕ) → standing (in_a_row (report press book run entries).figures ++ rest) ≡ (report press book run entries).figures
  unfolding report standing in_a_row figures_of each
  standing-figures rest =
      pick_ind (λ (o : Outcome). standing (in_a_row o.figures ++ rest) ≡ o.figures) (eqb (refusal press book run entries).number 0) (reported press book run entries)
      (refused (refusal press book run entries) entries) (λ _. refl) (λ _. refl)

  pub answers-report : (a : Answer) (f : Figures) (work row left : List ℕ) → telling a work left ≡ told (report press book run entries) row → f ≡ standing left
      → Answers (report press book run entries) (record { answer = a; figures = f }) work
  unfolding told
  answers-report a f work row left e named =
      record {
        answers = ap (λ (t : Told). t.answer) e;
        figures = named ∙ ap (λ (t : Told). standing t.slice) e ∙ standing-figures (drop figures_long row);
        leaves = ap (λ (t : Told). t.entries) e;
      }

  -- ── For the C host ──

  module _ (slice : List ℕ) where
    pub no_such_press : (IsPress press → ⊥) → (a : Answer) → a ≡ plain 21 → telling a entries slice ≡ run_report press book run entries slice
    unfolding run_report
    no_such_press n a e = ap (λ (b : Answer). telling b entries slice) e ∙ sym (no-press-first press (λ (b : Answer). telling b entries slice) _ n)

    pub short-slice : IsPress press → length slice < figures_long → (a : Answer) → a ≡ plain 13 → telling a entries slice ≡ run_report press book run entries slice
    unfolding run_report
    short-slice is h a e = rw (lt-ltb press presses is, lt-ltb (length slice) figures_long h) (ap (λ (b : Answer). telling b entries slice) e)

    pub long-slice : IsPress press → figures_long ≤ length slice → told (report press book run entries) slice ≡ run_report press book run entries slice
    unfolding run_report
    long-slice is h = rw (lt-ltb press presses is, le-ltb (length slice) figures_long h) refl

    pub leaves-report : (a : Answer) (r : ℕ) (work left : List ℕ) → telling a work left ≡ run_report press book run entries slice → r ≡ packed a 0
        → Leaves (run_report press book run entries slice) r work left
    leaves-report a r work left e p =
        record {
          answers = p ∙ ap (λ (t : Told). packed t.answer 0) e;
          leaves_work = ap (λ (t : Told). t.entries) e;
          leaves_figures = ap (λ (t : Told). t.slice) e;
        }
