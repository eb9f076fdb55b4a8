-- A run is refused exactly for what `RunFault` says: from the sheets that were read on goes the same walk, so that it stops where a length is refused or
-- passes the end, and nowhere else.
use Prim.Native.Nat.{ℕ, ◌-◌, ◌<◌, ◌≤◌}
use mathlib.Core.Path.{◌≡◌, refl, sym, ◌∙◌, ap}
use mathlib.Core.List.{List, [], ◌∷◌, ◌++◌}
use mathlib.Core.Logic.{◌↔◌, ◌⊎◌, inl, inr, ⊎_elim}
use native.Mathlib.Omega.{arith}
use borrow.Author.Tests.{lt-ltb}
use lib.ListN.{length}
use Rattle.names.specs.Pick.{fault}
use Rattle.names.specs.Number.{number_at}
use Rattle.names.specs.Fault.{Fault}
use Rattle.names.specs.Read.{Read}
use Rattle.names.specs.Read.{Value, Refused}
use Rattle.names.proofs.Exactly.{number-exactly}
use Rattle.names.proofs.FirstFault.{FirstFault, first-fault}
use Rattle.names.proofs.ReadingNumbers.{number-lies, number-refused}
use Rattle.names.specs.Bytes.{Bytes}
use Rattle.names.proofs.Tests.{lt-or-le}
use Rattle.books.specs.InTurn.{none_yet, one_more}
use Rattle.runs.specs.Run.{most_bytes, unframed, frame_at, sheet_in, left, faults, framing, sheets_of, spell_run}
use Rattle.runs.specs.ReadsRun.{SheetStands, a_sheet, SheetsRead, RunFault, too_long, no_length, past_end}
use Rattle.runs.specs.Run.{Frame}
use Rattle.runs.proofs.SpelledRuns.{run-spelled, sheets-read-back}
use Rattle.runs.proofs.WalkingRuns.{framed-refused, framed-short, framed-whole, frame-whole, sheet-framed, by-turns, left_end, left-stop, left-more, framing-left, run-few}

module _ (run : List ℕ) where
  -- ── What stands there is read ──

  sheet-on : (at next : ℕ) (sheet : List ℕ) → SheetStands run at sheet next → left faults run at ≡ left faults run next
  sheet-on at next sheet (a_sheet len start h fits _ e) =
      let read = (number-exactly run at _).1 h in
      let lies = number-lies run at len start read in
      let whole = framed-whole run at len start read fits in
      left-more faults run at (omega (arith, lies.after, lies.inside)) (ap (λ (f : Frame). f.fault.number) whole)
      ∙ ap (λ (f : Frame). left faults run f.end) whole ∙ ap (left faults run) (sym e)

  sheets-on : {sheets : List (List ℕ)} {at : ℕ} → SheetsRead run sheets at → left faults run 0 ≡ left faults run at
  sheets-on (none_yet _ e) = ap (left faults run) (sym e)
  sheets-on {at = at} (one_more before x there row here _) = sheets-on row ∙ sheet-on there at x here

  stopped : {sheets : List (List ℕ)} {at : ℕ} (f : Fault) → length run ≤ most_bytes → SheetsRead run sheets at → at < length run → 1 ≤ f.number
      → frame_at run at ≡ unframed f → framing run ≡ f
  stopped {at = at} f few r here some e =
      framing-left run few ∙ sheets-on r
      ∙ left-stop faults run at here (λ z. omega (arith, ap (λ (g : Frame). g.fault.number) e))
      ∙ ap (λ (g : Frame). g.fault) e

  fault-some : (f : Fault) → RunFault run f → 1 ≤ f.number
  fault-some f (too_long h e) = rw e (omega arith)
  fault-some f (no_length sheets at few r here h) = (number-refused run at f ((number-exactly run at _).1 h)).some
  fault-some f (past_end sheets at len next few r h short e) = rw e (omega arith)

  fault-is : (f : Fault) → RunFault run f → framing run ≡ f
  unfolding framing
  fault-is f (too_long h e) = rw (lt-ltb most_bytes (length run) h) (sym e)
  fault-is f (no_length sheets at few r here h) =
      let read = (number-exactly run at _).1 h in
      stopped f few r here (number-refused run at f read).some (framed-refused run at f read)
  fault-is f (past_end sheets at len next few r h short e) =
      let read = (number-exactly run at _).1 h in
      let lies = number-lies run at len next read in
      stopped (fault 1 (length run)) few r (omega (arith, lies.after, lies.inside)) (omega arith) (framed-short run at len next read short) ∙ sym e

  -- ── What is read stands there ──

  abbrev Out : Type 0
  Out = (framing run ≡ fault 0 0) ⊎ RunFault run (framing run)

  out : (f : Fault) → RunFault run f → Out
  out f x = inr (rw (fault-is f x) x)

  rest_out : length run ≤ most_bytes → (at : ℕ) (sheets : List (List ℕ)) → SheetsRead run sheets at → Out
  rest_out few =
      by-turns run (λ at. (sheets : List (List ℕ)) → SheetsRead run sheets at → Out)
      (λ at l sheets r. inl (framing-left run few ∙ sheets-on r ∙ left_end faults run at l))
      (λ at l n sheets r. refused at l sheets r (number_at run at) refl n)
      (λ at l z rest sheets r.
      let w = frame-whole run at z in
      let sheet = sheet_in run (frame_at run at) in
      rest (sheets ++ (sheet ∷ []))
      (one_more sheets sheet at r (rw w.is (a_sheet w.len w.next ((number-exactly run at _).0 w.read) w.fits (sheet-framed run w.next w.len) refl)) refl))
    where
      refused : (at : ℕ) → at < length run → (sheets : List (List ℕ)) → SheetsRead run sheets at → (n : Read) → number_at run at ≡ n
          → ((frame_at run at).fault.number ≡ 0 → ⊥) → Out
      refused at l sheets r (Refused f) e n = out f (no_length sheets at few r l ((number-exactly run at _).0 e))
      refused at l sheets r (Value len next) e n =
          ⊎_elim (λ short. out (fault 1 (length run)) (past_end sheets at len next few r ((number-exactly run at _).0 e) short refl))
          (λ fits. absurd (n (ap (λ (f : Frame). f.fault.number) (framed-whole run at len next e fits))))
          (lt-or-le (length run - next) len)

  run_out : Out
  run_out =
      ⊎_elim (λ long. out (fault 3 0) (too_long long refl)) (λ few. rest_out few 0 [] (none_yet refl refl))
      (lt-or-le most_bytes (length run))

  run-first : FirstFault (RunFault run) (framing run)
  run-first = first-fault (RunFault run) (framing run) run_out fault-is (λ z f x. omega (arith, fault-some f x, ap (λ (g : Fault). g.number) (fault-is f x)))

  -- ── The theorems ──

  pub run-refused-exactly : (f : Fault) → 1 ≤ f.number → (framing run ≡ f) ↔ RunFault run f
  run-refused-exactly = run-first.exactly

  pub run-one-fault : (f g : Fault) → RunFault run f → RunFault run g → f ≡ g
  run-one-fault = run-first.one

  -- what nothing refuses has few bytes, and some sheets are spelled so
  pub run-accepted-exactly : Bytes run → ((framing run).number ≡ 0) ↔ ((sheets : List (List ℕ)) × (spell_run sheets ≡ run) × (length run ≤ most_bytes))
  run-accepted-exactly bytes = (
    λ z. (sheets_of run, sym (run-spelled run bytes z), run-few run z),
    λ x. rw x.1 at (ap (λ (f : Fault). f.number) (sheets-read-back x.0 (rw x.1 x.2)).0),
  )

  pub run-faultless-exactly : Bytes run → ((f : Fault) → RunFault run f → ⊥) ↔ ((sheets : List (List ℕ)) × (spell_run sheets ≡ run) × (length run ≤ most_bytes))
  run-faultless-exactly bytes = (
    λ no. (run-accepted-exactly bytes).0 (run-first.none.0 no),
    λ x. run-first.none.1 ((run-accepted-exactly bytes).1 x),
  )
