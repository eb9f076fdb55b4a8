-- Demand 1, of the call for the C host: the number is taken apart as the header does, and where it is neither 21 nor 13, the figures stand at the front of the slice,
-- whatever is answered.
use Prim.Native.Nat.{ℕ, ◌/◌, ◌%◌, ◌^◌, ◌≤◌, ◌<◌}
use mathlib.Core.Path.{◌≡◌, refl, sym, ap, ◌∙◌}
use mathlib.Core.List.{List, ◌++◌}
use mathlib.Core.Logic.{◌↔◌, ◌⊎◌, inl, inr, ⊎_elim}
use native.Mathlib.Omega.{arith}
use lib.ListN.{length, drop}
use Rattle.names.proofs.Tests.{lt-or-le, together, neither}
use Rattle.books.specs.Answer.{InputsNumber, plain, packed}
use Rattle.books.specs.Press.{presses, IsPress}
use Rattle.books.specs.declared.answer.Answer.{Answer}
use Rattle.books.proofs.Packing.{apart, plain-packs}
use Rattle.books.proofs.Refusals.{not-input}
use Rattle.runs.specs.Figures.{figures_long, in_a_row}
use Rattle.runs.specs.Outcome.{Outcome, report, Answers, told, run_report, Leaves}
use Rattle.runs.specs.declared.calls.RunReport.{RunReport}
use Rattle.runs.specs.declared.figures.Figures.{Figures}
use Rattle.runs.specs.inner.Reporting.{telling}
use Rattle.runs.proofs.ReportingRuns.{no_such_press, short-slice, long-slice}
use Rattle.runs.proofs.Demand1.{Answered, obeys, report-packs}

module _ (press : ℕ) (book run work slice : List ℕ) where
  abbrev o : Outcome
  o = report press book run work

  -- a number that blames no input, and both slices are as they were
  pub record Only (n r : ℕ) (work_left left : List ℕ) : Type 0 where
    pub number_is : r % 2 ^ 8 ≡ n
    pub blames_none : (r / 2 ^ 8 % 2 ^ 4 ≡ 0) × (r / 2 ^ 12 % 2 ^ 20 ≡ 0)
    pub unwritten : (work_left ≡ work) × (left ≡ slice)

  -- 21 and then 13 before anything is read, and nothing is written; else the figures stand at the front of the slice, whatever is answered
  pub record Called (r : ℕ) (work_left left : List ℕ) : Type 0 where
    pub listed : (InputsNumber (r % 2 ^ 8) ⊎ (r % 2 ^ 8 ≡ 9) ⊎ (r % 2 ^ 8 ≡ 21)) ⊎ (r % 2 ^ 8 ≡ 13)
    pub no_press : (r % 2 ^ 8 ≡ 21) ↔ (IsPress press → ⊥)
    pub thirteen : (r % 2 ^ 8 ≡ 13) ↔ (IsPress press × (length slice < figures_long))
    pub pressless : (IsPress press → ⊥) → Only 21 r work_left left
    pub short : IsPress press → length slice < figures_long → Only 13 r work_left left
    pub long : IsPress press → figures_long ≤ length slice
        → (f : Figures) × Answered press book run work (r % 2 ^ 8) (r / 2 ^ 8 % 2 ^ 4) (r / 2 ^ 12 % 2 ^ 20) f work_left × (left ≡ in_a_row f ++ drop figures_long slice)
    pub no_count : r / 2 ^ 32 ≡ 0

  module _ (r : ℕ) (work_left left : List ℕ) where
    refuses : (n : ℕ) → n < 2 ^ 8 → Leaves (telling (plain n) work slice) r work_left left → Only n r work_left left × (r / 2 ^ 32 ≡ 0)
    refuses n few m =
        let p = apart (plain n) 0 (plain-packs n 0 few (omega arith)) in (
          rw m.answers (record { number_is = p.number_is; blames_none = (p.blamed_is, p.place_is); unwritten = (m.leaves_work, m.leaves_figures) }),
          rw m.answers p.count_is,
        )

    called-nowhere : (IsPress press → ⊥) → Leaves (telling (plain 21) work slice) r work_left left → Called r work_left left
    called-nowhere none m =
        let x = refuses 21 (omega arith) m in
        record {
          listed = inl (inr (inr x.0.number_is));
          no_press = together x.0.number_is none;
          thirteen = neither (λ e. omega (arith, x.0.number_is)) (λ g. none g.0);
          pressless = λ _. x.0;
          short = λ is. absurd (none is);
          long = λ is. absurd (none is);
          no_count = x.1;
        }

    module _ (is : IsPress press) where
      called-short : length slice < figures_long → Leaves (telling (plain 13) work slice) r work_left left → Called r work_left left
      called-short h m =
          let x = refuses 13 (omega arith) m in
          record {
            listed = inr x.0.number_is;
            no_press = neither (λ e. omega (arith, x.0.number_is)) (λ none. none is);
            thirteen = together x.0.number_is (is, h);
            pressless = λ none. absurd (none is);
            short = λ _ _. x.0;
            long = λ _ g. absurd (omega arith);
            no_count = x.1;
          }

      called-long : figures_long ≤ length slice → Leaves (told o slice) r work_left left → Called r work_left left
      unfolding told
      called-long h m =
          let p = apart o.answer 0 (report-packs press book run work) in
          let all : Answered press book run work (r % 2 ^ 8) (r / 2 ^ 8 % 2 ^ 4) (r / 2 ^ 12 % 2 ^ 20) o.figures work_left =
          rw (m.answers, m.leaves_work) (rw (p.number_is, p.blamed_is, p.place_is) (obeys press book run work)) in
          record {
            listed = inl all.listed;
            no_press = all.no_press;
            thirteen = neither (λ e. other-than (r % 2 ^ 8) e all.listed) (λ g. omega (arith, g.1));
            pressless = λ none. absurd (none is);
            short = λ _ g. absurd (omega arith);
            long = λ _ _. (o.figures, all, m.leaves_figures);
            no_count = rw m.answers p.count_is;
          }
        where
          other-than : (n : ℕ) → n ≡ 13 → InputsNumber n ⊎ (n ≡ 9) ⊎ (n ≡ 21) → ⊥
          other-than n e (inl g) = not-input n g (omega arith) (λ u. omega arith)
          other-than n e (inr (inl g)) = omega arith
          other-than n e (inr (inr g)) = omega arith

  pub dv_run_report-called : (r : ℕ) (work_left left : List ℕ) → Leaves (run_report press book run work slice) r work_left left → Called r work_left left
  dv_run_report-called r work_left left l =
      ⊎_elim
      (λ is.
      ⊎_elim
      (λ h. called-short r work_left left is h (rw (← short-slice press book run work slice is h (plain 13) refl) at l))
      (λ h. called-long r work_left left is h (rw (← long-slice press book run work slice is h) at l))
      (lt-or-le (length slice) figures_long))
      (λ h. let none : IsPress press → ⊥ = λ is. omega arith in
      called-nowhere r work_left left none (rw (← no_such_press press book run work slice none (plain 21) refl) at l))
      (lt-or-le press presses)

  -- on a press the two calls do the same
  pub alike : IsPress press → figures_long ≤ length slice → {a : RunReport} {r : ℕ} {w v left : List ℕ}
      → Answers (report press book run work) a w → Leaves (run_report press book run work slice) r v left
      → (r ≡ packed a.answer 0) × (v ≡ w) × (left ≡ in_a_row a.figures ++ drop figures_long slice)
  unfolding told
  alike is h {a} {r} {w} {v} {left} x l =
      let m : Leaves (told o slice) r v left = rw (← long-slice press book run work slice is h) at l in (
        m.answers ∙ ap (λ (b : Answer). packed b 0) (sym x.answers),
        m.leaves_work ∙ sym x.leaves,
        m.leaves_figures ∙ ap (λ (f : Figures). in_a_row f ++ drop figures_long slice) (sym x.figures),
      )
