-- What a report answers and leaves, from the bytes of the lent book and run and the entries of the lent work slice.
use Rattle.std.specs.Prelude.{ℕ, ◌≡◌, List, ◌++◌, eqb, ltb, length, drop, replicate}
use Rattle.names.specs.Pick.{pick}
use Rattle.books.specs.Answer.{plain, blaming, packed}
use Rattle.books.specs.Lent.{on_press, lent_book}
use Rattle.books.specs.declared.answer.Answer.{Answer}
use Rattle.runs.specs.Run.{framing, sheets_of}
use Rattle.runs.specs.Figures.{work_room, figures_of, no_figures, figures_long, in_a_row}
use Rattle.runs.specs.declared.figures.Figures.{Figures}
use Rattle.runs.specs.declared.calls.RunReport.{RunReport}

-- the answer, the figures, and the work slice
pub record Outcome : Type 0 where
  pub answer : Answer
  pub figures : Figures
  pub entries : List ℕ

-- a refusal writes nothing, and every figure is 0
abbrev pub refused : Answer → List ℕ → Outcome
refused a entries = record { answer = a; figures = no_figures; entries = entries }

-- the figures of the run's sheets; the work slice is cleared as far as any sheet can need it, and the slice beyond is as it was
abbrev pub reported : ℕ → List ℕ → List ℕ → List ℕ → Outcome
reported press book run entries =
    record { answer = plain 0; figures = figures_of press book (sheets_of run); entries = replicate (work_room press) 0 ++ drop (work_room press) entries }

-- what is refused of a run and of so many entries: the fault of the run's framing, then 9 where there is room for fewer than so many; the number 0 is nothing
unfoldable pub refused_run : ℕ → List ℕ → ℕ → Answer
refused_run room run entries = pick (eqb (framing run).number 0) (pick (ltb entries room) (plain 9) (plain 0)) (blaming 2 (framing run))

-- 21 where there is no such press comes first, then the book's fault, and there must be room for the greatest sheet of the press
abbrev pub refusal : ℕ → List ℕ → List ℕ → List ℕ → Answer
refusal press book run entries = on_press press (λ a. a) (lent_book 1 book (λ a. a) (λ _. refused_run (work_room press) run (length entries)))

unfoldable pub report : ℕ → List ℕ → List ℕ → List ℕ → Outcome
report press book run entries =
    pick (eqb (refusal press book run entries).number 0) (reported press book run entries) (refused (refusal press book run entries) entries)

-- what the call answers, and the work slice as it leaves it, are those of an outcome
pub record Answers (o : Outcome) (r : RunReport) (entries : List ℕ) : Type 0 where
  pub answers : r.answer ≡ o.answer
  pub figures : r.figures ≡ o.figures
  pub leaves : entries ≡ o.entries

-- ── For the C host ──

-- the answer, the work slice and the slice of the figures
pub record Told : Type 0 where
  pub answer : Answer
  pub entries : List ℕ
  pub slice : List ℕ

-- the figures stand at the front of the slice, whatever a report answers, and the slice beyond is as it was
unfoldable pub told : Outcome → List ℕ → Told
told o slice = record { answer = o.answer; entries = o.entries; slice = in_a_row o.figures ++ drop figures_long slice }

-- 21 where there is no such press, and then 13 where that slice is too short, before anything is read: nothing is written
unfoldable pub run_report : ℕ → List ℕ → List ℕ → List ℕ → List ℕ → Told
run_report press book run entries slice =
    on_press press (λ a. record { answer = a; entries = entries; slice = slice })
    (pick (ltb (length slice) figures_long) (record { answer = plain 13; entries = entries; slice = slice }) (told (report press book run entries) slice))

-- the number that the host gets, with 0 for the count, and both slices as the call leaves them
pub record Leaves (t : Told) (r : ℕ) (entries slice : List ℕ) : Type 0 where
  pub answers : r ≡ packed t.answer 0
  pub leaves_work : entries ≡ t.entries
  pub leaves_figures : slice ≡ t.slice
