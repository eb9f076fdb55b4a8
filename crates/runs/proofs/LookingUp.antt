-- Where a sheet stands in a run, from its bytes: the run is its sheets one after another, each preceded by its length, so that the part told is the sheet with
-- that number; a length takes a byte, so that the number told is 0 exactly where there is no such sheet.
use Prim.Native.Nat.{ℕ, ◌+◌, ◌-◌, ◌*◌, ◌/◌, ◌%◌, ◌^◌, ◌≤◌, ◌<◌}
use mathlib.Core.Path.{◌≡◌, refl, sym, ap, ◌∙◌}
use mathlib.Core.List.{List, [], ◌∷◌, ◌++◌, append_assoc, append-nil}
use mathlib.Core.Logic.{◌↔◌, ◌⊎◌, inl, inr, ⊎_elim}
use native.Mathlib.Decide.{ℕ_discrete}
use native.Mathlib.Nat.{eq-zero-or-pos}
use native.Mathlib.Omega.{arith}
use borrow.Author.Tests.{lt-ltb, le-ltb, eq-eqb, ne_eqb}
use lib.ListN.{length, take, drop, length-append, length-drop}
use lib.Seq.{length-take-le}
use Rattle.names.specs.Bytes.{Bytes}
use Rattle.names.specs.Number.{spell_number}
use Rattle.names.proofs.ReadingNumbers.{number-lies}
use Rattle.names.proofs.Settled.{Settles, settles}
use Rattle.names.proofs.SpellingNumbers.{number_spelled}
use Rattle.names.proofs.Tests.{lt-or-le}
use Rattle.runs.specs.Run.{frame_at, sheet_in, left, faults, sheets, framing, sheets_of, spell_run}
use Rattle.runs.specs.Numbered.{sheet_with, start_with, place_with, run_sheet_shown}
use Rattle.runs.specs.Run.{Frame}
use Rattle.runs.proofs.SpelledRuns.{run-spelled}
use Rattle.runs.proofs.WalkingRuns.{FrameLies, frame-whole, frame-lies, sheet-framed, left_end, left-stop, left-more, framing-left, run-few}
use Rattle.runs.proofs.SheetsStand.{none-long, reach, sheet-part, sheet-inside, start_some, place-behind}

-- ── As the code finds it ──

-- a sheet stands behind its length as it is spelled
record FrameSpelled (run : List ℕ) (at : ℕ) (f : Frame) : Type 0 where
  start_is : f.start ≡ at + length (spell_number (length (sheet_in run f)))
  end_is : f.end ≡ f.start + length (sheet_in run f)

frame-spelled : (run : List ℕ) → Bytes run → (at : ℕ) → (frame_at run at).fault.number ≡ 0 → FrameSpelled run at (frame_at run at)
frame-spelled run bytes at z =
    let w = frame-whole run at z in
    let n = number-lies run at w.len w.next w.read in
    let long : length (take w.len (drop w.next run)) ≡ w.len = length-take-le w.len (drop w.next run) (omega (arith, w.fits, length-drop w.next run)) in
    let spelled = ap length (number_spelled run bytes at w.len w.next w.read) ∙ length-append (spell_number w.len) (drop w.next run) in
    rw w.is
    (record {
      start_is = rw (sheet-framed run w.next w.len, long) (omega (arith, spelled, length-drop at run, length-drop w.next run, n.after, n.inside));
      end_is = rw (sheet-framed run w.next w.len, long) refl;
    })

-- the sheets before a place are behind, and so many are still before the one that is looked for
pub record Passed (run : List ℕ) (number at before : ℕ) : Type 0 where
  pub done : List (List ℕ)
  pub all : done ++ left sheets run at ≡ sheets_of run
  pub reached : length (spell_run done) ≡ at
  pub counted : length done + before ≡ number
  pub framed : (left faults run at).number ≡ 0

module _ (run : List ℕ) where
  pub refused_none : ((framing run).number ≡ 0 → ⊥) → (number : ℕ) → run_sheet_shown run number ≡ 0
  refused_none d number = rw (ne_eqb (framing run).number 0 d)

  module _ (fine : (framing run).number ≡ 0) (number : ℕ) where
    fine-shown : run_sheet_shown run number ≡ place_with (sheets_of run) number
    fine-shown = rw (eq-eqb (framing run).number 0 fine)

    pub begins : Passed run number 0 number
    unfolding sheets_of
    begins = record { done = []; all = refl; reached = none-long; counted = omega arith; framed = rw (framing-left run (run-few run fine)) at fine }

    none-with : length (sheets_of run) ≤ number → place_with (sheets_of run) number ≡ 0
    unfolding place_with
    none-with h = rw (le-ltb number (length (sheets_of run)) h) refl

    module _ (bytes : Bytes run) (at before : ℕ) (p : Passed run number at before) where
      pub frame-good : at < length run → (frame_at run at).fault.number ≡ 0
      frame-good h = go (ℕ_discrete (frame_at run at).fault.number 0)
        where
          go : Dec ((frame_at run at).fault.number ≡ 0) → (frame_at run at).fault.number ≡ 0
          go (yes z) = z
          go (no n) = absurd (n (rw (left-stop faults run at h n) at p.framed))

      pub frame-there : at < length run → FrameLies run at (frame_at run at)
      frame-there h = frame-lies run at (frame-good h)

      there : (h : at < length run) → p.done ++ (sheet_in run (frame_at run at) ∷ left sheets run (frame_at run at).end) ≡ sheets_of run
      there h = ap (λ (l : List (List ℕ)). p.done ++ l) (sym (left-more sheets run at h (frame-good h))) ∙ p.all

      -- none is before it: it is the one
      pub sheet-found : at < length run → before ≡ 0 → let f = frame_at run at in f.start + 2 ^ 32 * (f.end - f.start) ≡ run_sheet_shown run number
      sheet-found h none =
          let f = frame_at run at in
          let sheet = sheet_in run f in
          let spelled = frame-spelled run bytes at (frame-good h) in
          let place = place-behind p.done sheet (left sheets run f.end) in
          let is : length p.done ≡ number = omega (arith, p.counted) in
          let told : f.start + 2 ^ 32 * (f.end - f.start) ≡ length (spell_run p.done) + length (spell_number (length sheet)) + 2 ^ 32 * length sheet =
          omega (arith, spelled.start_is, spelled.end_is, p.reached) in
          told ∙ sym place ∙ ap (λ (l : List (List ℕ)). place_with l (length p.done)) (there h) ∙ ap (place_with (sheets_of run)) is ∙ sym fine-shown

      pub sheet-passed : at < length run → (before ≡ 0 → ⊥) → Passed run number (frame_at run at).end (before - 1)
      sheet-passed h some =
          let f = frame_at run at in
          let sheet = sheet_in run f in
          let z = frame-good h in
          let spelled = frame-spelled run bytes at z in
          record {
            done = p.done ++ (sheet ∷ []);
            all = append_assoc p.done (sheet ∷ []) (left sheets run f.end) ∙ there h;
            reached = omega (arith, reach p.done sheet, spelled.start_is, spelled.end_is, p.reached);
            counted = omega (arith, length-append p.done (sheet ∷ []), p.counted);
            framed = rw (left-more faults run at h z) at p.framed;
          }

      pub none_left : length run ≤ at → run_sheet_shown run number ≡ 0
      none_left h =
          let every = sym (append-nil p.done) ∙ ap (λ (l : List (List ℕ)). p.done ++ l) (sym (left_end sheets run at h)) ∙ p.all in
          fine-shown ∙ none-with (omega (arith, ap length every, p.counted))

-- ── The theorems ──

module _ (run : List ℕ) (k : ℕ) where
  -- there is no such sheet: the run is refused, or the number is not below the count
  abbrev pub NoSheet : Type 0
  NoSheet = ((framing run).number ≡ 0 → ⊥) ⊎ (length (sheets_of run) ≤ k)

  -- what dv_run_sheet answers of a sheet: taken apart as the header does, the part of the run that it is
  pub record Shows (r : ℕ) : Type 0 where
    pub start_is : r % 2 ^ 32 ≡ start_with (sheets_of run) k
    pub start_some : 1 ≤ r % 2 ^ 32
    pub length_is : r / 2 ^ 32 ≡ length (sheet_with (sheets_of run) k)
    pub inside : r % 2 ^ 32 + r / 2 ^ 32 ≤ length run
    pub part : take (r / 2 ^ 32) (drop (r % 2 ^ 32) run) ≡ sheet_with (sheets_of run) k

  place_with_lem : (framing run).number ≡ 0 → k < length (sheets_of run) → run_sheet_shown run k ≡ start_with (sheets_of run) k + 2 ^ 32 * length (sheet_with (sheets_of run) k)
  unfolding place_with
  place_with_lem z h = rw (eq-eqb (framing run).number 0 z, lt-ltb k (length (sheets_of run)) h) refl

  pub run_sheet_shown_lem : Bytes run → (framing run).number ≡ 0 → k < length (sheets_of run) → Shows (run_sheet_shown run k)
  run_sheet_shown_lem bytes z h =
      let l = sheets_of run in
      let e = place_with_lem z h in
      let spelled = run-spelled run bytes z in
      let in_run : start_with l k + length (sheet_with l k) ≤ length run = omega (arith, sheet-inside l k h, ap length spelled) in
      let few = run-few run z in
      let start : run_sheet_shown run k % 2 ^ 32 ≡ start_with l k = omega arith in
      let len : run_sheet_shown run k / 2 ^ 32 ≡ length (sheet_with l k) = omega arith in
      record {
        start_is = start;
        start_some = omega (arith, start_some l k (omega arith));
        length_is = len;
        inside = omega arith;
        part = rw (start, len) (rw (← spelled) at (sheet-part l k h));
      }

  -- it is 0 exactly where there is none
  pub no-run-sheet-exactly : Bytes run → (run_sheet_shown run k ≡ 0) ↔ NoSheet
  no-run-sheet-exactly bytes = (
    λ e. ⊎_elim
        (λ z. ⊎_elim (λ h. absurd (omega (arith, (run_sheet_shown_lem bytes z h).start_some))) inr (lt-or-le k (length (sheets_of run))))
        (λ p. inl (λ z. omega arith))
        (eq-zero-or-pos (framing run).number),
    λ x. ⊎_elim
        (λ z. ⊎_elim (λ d. absurd (d z)) (λ h. fine-shown run z k ∙ none-with run z k h) x)
        (λ p. refused_none run (λ z. omega arith) k)
        (eq-zero-or-pos (framing run).number),
  )

pub dv_run_sheet-settled : (run : List ℕ) (k : ℕ) → Settles (run_sheet_shown run k)
dv_run_sheet-settled run k = settles _
