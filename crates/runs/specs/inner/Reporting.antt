-- What the functions that report a run ask for, and what they leave in the slice of the figures and in the work slice.
use Rattle.std.specs.Prelude.{◌≡◌, List, [], ◌∷◌, ◌++◌, ℕ, ◌≤◌, Result, Ok, Err, eqb, length, drop}
use Rattle.names.specs.Pick.{pick}
use Rattle.names.specs.Fault.{Fault}
use Rattle.books.specs.Answer.{plain, blaming}
use Rattle.books.specs.Lent.{on_press}
use Rattle.books.specs.declared.answer.Answer.{Answer}
use Rattle.runs.specs.Run.{framing}
use Rattle.runs.specs.Figures.{work_room, figures_of, no_figures, figures_long, in_a_row}
use Rattle.runs.specs.Outcome.{Told, refused_run}
use Rattle.runs.specs.inner.Adding.{most_added, Spare}

-- what the code answers of a run: that it was reported, or what refuses it
abbrev pub told_report : Result (Unit {0}) Answer → Answer
told_report (Ok _) = plain 0
told_report (Err answer) = answer

-- what is refused of a press, of a book that was read with a fault or with none, of a run and of so many entries
abbrev pub refusing : ℕ → Fault → List ℕ → ℕ → Answer
refusing press f run entries = on_press press (λ a. a) (pick (eqb f.number 0) (refused_run (work_room press) run entries) (blaming 1 f))

-- a work slice with room for the greatest sheet of a press, and figures with room for a sheet more
pub record AddingDue (press : ℕ) (work figures : List ℕ) : Type 0 where
  pub work_long : work_room press ≤ length work
  pub spare : Spare most_added figures

-- a run whose framing has no fault, such a work slice, and figures of no sheets
pub record RunDue (press : ℕ) (run work figures : List ℕ) : Type 0 where
  pub run_fine : (framing run).number ≡ 0
  pub work_long : work_room press ≤ length work
  pub none : figures ≡ in_a_row no_figures ++ drop figures_long figures

-- the figures of any sheets become those of one sheet more; neither slice changes beyond what is lent for
pub record Adds (press : ℕ) (book sheet work work_left figures left : List ℕ) : Type 0 where
  pub counts : (so_far : List (List ℕ)) (rest : List ℕ) → figures ≡ in_a_row (figures_of press book so_far) ++ rest
      → left ≡ in_a_row (figures_of press book (so_far ++ (sheet ∷ []))) ++ rest
  pub work_same : drop (work_room press) work_left ≡ drop (work_room press) work

-- the figures are those of these sheets
pub record Counts (press : ℕ) (book : List ℕ) (sheets : List (List ℕ)) (work work_left figures left : List ℕ) : Type 0 where
  pub counts : left ≡ in_a_row (figures_of press book sheets) ++ drop figures_long figures
  pub work_same : drop (work_room press) work_left ≡ drop (work_room press) work

-- an answer, and both slices as they are left
abbrev pub telling : Answer → List ℕ → List ℕ → Told
telling a entries slice = record { answer = a; entries = entries; slice = slice }
