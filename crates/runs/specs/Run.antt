-- The sheets of a run: one after another, each preceded by its length as a number.
use Rattle.std.specs.Prelude.{ℕ, zero, suc, ◌+◌, ◌-◌, List, [], ◌∷◌, ◌++◌, ltb, leb, length, take, drop}
use Rattle.names.specs.Pick.{pick, fault}
use Rattle.names.specs.Onward.{onward, faultless}
use Rattle.names.specs.Number.{number_at, spell_number}
use Rattle.names.specs.Fault.{Fault}

-- a run has at most so many bytes
abbrev pub most_bytes : ℕ
most_bytes = 65536

-- where a sheet starts and ends, and the fault of its length, where the number 0 is none
pub record Frame : Type 0 where
  pub fault : Fault
  pub start : ℕ
  pub end : ℕ

-- where a sheet starts and ends, or the fault of its length
abbrev pub framed : ℕ → ℕ → Frame
framed start end = record { fault = fault 0 0; start = start; end = end }

abbrev pub unframed : Fault → Frame
unframed f = record { fault = f; start = 0; end = 0 }

-- the sheet whose length stands at a place: 1 or 2 as a number read there, and 1 at the run's end for a length that passes it
unfoldable pub frame_at : List ℕ → ℕ → Frame
frame_at run at =
    onward unframed (number_at run at) (λ len next.
    pick (ltb (length run - next) len) (unframed (fault 1 (length run))) (framed next (next + len)))

-- the bytes of a sheet
abbrev pub sheet_in : List ℕ → Frame → List ℕ
sheet_in run f = take (f.end - f.start) (drop f.start run)

-- what is made of a run, sheet by sheet: `done` at its end, `refuse` for the first fault of a length, and `more` for a sheet and what follows it
pub record Walk (A : Type 0) : Type 0 where
  pub done : A
  pub refuse : Fault → A
  pub more : List ℕ → A → A

unfoldable pub walk_from : {A : Type 0} → Walk A → List ℕ → ℕ → ℕ → A
walk_from w run at zero = w.done
walk_from w run at (suc turns) =
    let f = frame_at run at in
    pick (leb (length run) at) w.done (faultless w.refuse f.fault (w.more (sheet_in run f) (walk_from w run f.end turns)))

-- from a place on: every length takes a byte, so that as many turns as there are bytes left reach the end
abbrev pub left : {A : Type 0} → Walk A → List ℕ → ℕ → A
left w run at = walk_from w run at (length run - at)

-- the first fault, and the sheets
abbrev pub faults : Walk Fault
faults = record { done = fault 0 0; refuse = λ f. f; more = λ sheet rest. rest }

abbrev pub sheets : Walk (List (List ℕ))
sheets = record { done = []; refuse = λ f. []; more = λ sheet rest. sheet ∷ rest }

-- the fault of a run: 3 at 0 where it is too long, and else the first of its lengths
unfoldable pub framing : List ℕ → Fault
framing run = pick (ltb most_bytes (length run)) (fault 3 0) (left faults run 0)

unfoldable pub sheets_of : List ℕ → List (List ℕ)
sheets_of run = left sheets run 0

-- sheets one after another, each preceded by its length: the run that they make
unfoldable pub spell_run : List (List ℕ) → List ℕ
spell_run [] = []
spell_run (sheet ∷ sheets) = spell_number (length sheet) ++ (sheet ++ spell_run sheets)
