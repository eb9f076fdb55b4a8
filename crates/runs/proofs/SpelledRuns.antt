-- A run whose framing has no fault is its sheets one after another, each preceded by its length: so the list of its sheets leaves nothing out and
-- adds nothing. And sheets that are spelled so are read back, since a length that is spelled is the number that stands there.
use Prim.Native.Nat.{ℕ, ◌+◌, ◌≤◌, ◌<◌}
use mathlib.Core.Path.{◌≡◌, refl, sym, ap, ap₂, ◌∙◌}
use mathlib.Core.List.{List, [], ◌∷◌, ◌++◌}
use native.Mathlib.Omega.{arith}
use lib.ListN.{length, take, drop, length-append, length-drop, take-append-drop, drop_of_length-le}
use lib.Seq.{length-take-le, drop-drop, take-append_seam, drop-append_seam}
use Rattle.names.specs.Number.{spell_number}
use Rattle.names.specs.Pick.{fault}
use Rattle.names.proofs.ReadingNumbers.{number-lies}
use Rattle.names.specs.Bytes.{Bytes}
use Rattle.names.proofs.SpellingNumbers.{number_spelled, number-reads-at}
use Rattle.runs.specs.Run.{most_bytes, frame_at, sheet_in, left, faults, sheets, framing, sheets_of, spell_run}
use Rattle.runs.specs.Run.{Frame}
use Rattle.runs.proofs.WalkingRuns.{framed-whole, frame-whole, sheet-framed, frame-lies, by-turns, left_end, left-stop, left-more, framing-left, run-few}

module _ (run : List ℕ) (bytes : Bytes run) where
  -- a sheet with its length, and what stands behind it
  one-spelled : (at : ℕ) → (frame_at run at).fault.number ≡ 0 → let f = frame_at run at in
      drop at run ≡ spell_number (length (sheet_in run f)) ++ (sheet_in run f ++ drop f.end run)
  one-spelled at z =
      let w = frame-whole run at z in
      let n = number-lies run at w.len w.next w.read in
      let sheet = take w.len (drop w.next run) in
      let long : length sheet ≡ w.len = length-take-le w.len (drop w.next run) (omega (arith, w.fits, length-drop w.next run)) in
      let behind : drop w.next run ≡ sheet ++ drop (w.next + w.len) run =
      sym (take-append-drop w.len (drop w.next run)) ∙ ap (λ (l : List ℕ). sheet ++ l) (drop-drop w.len w.next run) in
      rw (w.is, sheet-framed run w.next w.len, long) (number_spelled run bytes at w.len w.next w.read ∙ ap (λ (l : List ℕ). spell_number w.len ++ l) behind)

  pub run-spelled : (framing run).number ≡ 0 → run ≡ spell_run (sheets_of run)
  unfolding sheets_of spell_run
  run-spelled z =
      by-turns run (λ at. (left faults run at).number ≡ 0 → drop at run ≡ spell_run (left sheets run at))
      (λ at l y. drop_of_length-le run l ∙ ap spell_run (sym (left_end sheets run at l)))
      (λ at l n y. absurd (n (rw (left-stop faults run at l n) at y)))
      (λ at l y rest x.
      let sheet = sheet_in run (frame_at run at) in
      one-spelled at y ∙ ap (λ (r : List ℕ). spell_number (length sheet) ++ (sheet ++ r)) (rest (rw (left-more faults run at l y) at x))
      ∙ ap spell_run (sym (left-more sheets run at l y)))
      0 (rw (framing-left run (run-few run z)) at z)

-- ── Sheets are read back ──

module _ (run : List ℕ) (few : length run ≤ most_bytes) where
  record ReadsBack (spelled : List (List ℕ)) (at : ℕ) : Type 0 where
    pub framing_fine : left faults run at ≡ fault 0 0
    pub sheets_are : left sheets run at ≡ spelled

  -- the length of a sheet, and the sheet behind it
  record Stands (sheet rest : List ℕ) (at : ℕ) : Type 0 where
    pub before : at < length run
    pub fine : (frame_at run at).fault.number ≡ 0
    pub sheet_is : sheet_in run (frame_at run at) ≡ sheet
    pub rest_is : drop (frame_at run at).end run ≡ rest

  stands : (sheet rest : List ℕ) (at : ℕ) → at ≤ length run → drop at run ≡ spell_number (length sheet) ++ (sheet ++ rest) → Stands sheet rest at
  stands sheet rest at h e =
      let n = length sheet in
      let spelled = spell_number n in
      let next = at + length spelled in
      let size = ap length e ∙ length-append spelled (sheet ++ rest) in
      let both = length-append sheet rest in
      let read = number-reads-at run (sheet ++ rest) at n h (omega (arith, size, both, length-drop at run)) e in
      let lies = number-lies run at n next read in
      let behind : drop next run ≡ sheet ++ rest = sym (drop-drop (length spelled) at run) ∙ ap (drop (length spelled)) e ∙ drop-append_seam spelled (sheet ++ rest) in
      let whole = framed-whole run at n next read (omega (arith, size, both, length-drop at run, lies.inside)) in
      record {
        before = omega (arith, lies.after, lies.inside);
        fine = ap (λ (f : Frame). f.fault.number) whole;
        sheet_is = ap (sheet_in run) whole ∙ sheet-framed run next n ∙ ap (take n) behind ∙ take-append_seam sheet rest;
        rest_is = ap (λ (f : Frame). drop f.end run) whole ∙ sym (drop-drop n next run) ∙ ap (drop n) behind ∙ drop-append_seam sheet rest;
      }

  reads-back : (spelled : List (List ℕ)) (at : ℕ) → at ≤ length run → drop at run ≡ spell_run spelled → ReadsBack spelled at
  unfolding spell_run
  reads-back [] at h e =
      let ended : length run ≤ at = omega (arith, ap length e, length-drop at run) in
      record { framing_fine = left_end faults run at ended; sheets_are = left_end sheets run at ended }
  reads-back (sheet ∷ spelled) at h e =
      let s = stands sheet (spell_run spelled) at h e in
      let rest = reads-back spelled (frame_at run at).end (frame-lies run at s.fine).inside s.rest_is in
      record {
        framing_fine = left-more faults run at s.before s.fine ∙ rest.framing_fine;
        sheets_are = left-more sheets run at s.before s.fine ∙ ap₂ (λ (x : List ℕ) (l : List (List ℕ)). x ∷ l) s.sheet_is rest.sheets_are;
      }

pub sheets-read-back : (sheets : List (List ℕ)) → length (spell_run sheets) ≤ most_bytes
    → (framing (spell_run sheets) ≡ fault 0 0) × (sheets_of (spell_run sheets) ≡ sheets)
unfolding sheets_of
sheets-read-back sheets few =
    let run = spell_run sheets in
    let back = reads-back run few sheets 0 (omega arith) refl in
    (framing-left run few ∙ back.framing_fine, back.sheets_are)
