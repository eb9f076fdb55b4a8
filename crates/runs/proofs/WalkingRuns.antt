-- A sheet lies after its length and within the run, so that each turn comes nearer to the run's end, and turns enough give what more of them give.
use Prim.Native.Nat.{ℕ, zero, suc, ◌+◌, ◌-◌, ◌≤◌, ◌<◌}
use mathlib.Core.Path.{◌≡◌, refl, sym, ◌∙◌, ap}
use mathlib.Core.List.{List}
use mathlib.Core.Logic.{◌⊎◌, inl, inr, ⊎_elim}
use native.Mathlib.Decide.{ℕ_discrete}
use native.Mathlib.Omega.{arith}
use borrow.Author.Tests.{eq-eqb, ne_eqb, le-leb, lt-leb, le-ltb, lt-ltb, ltb-false}
use lib.Dec.{ltb}
use lib.ListN.{length, take, drop}
use Rattle.names.specs.Pick.{fault}
use Rattle.names.specs.Number.{number_at}
use Rattle.names.specs.Fault.{Fault}
use Rattle.names.specs.Read.{Value, Refused}
use Rattle.names.proofs.Onwards.{onward-ind}
use Rattle.names.proofs.Picking.{pick_ind}
use Rattle.names.proofs.ReadingNumbers.{Blamed, blamed-later, number-lies, number-refused}
use Rattle.names.proofs.Tests.{lt-or-le}
use Rattle.runs.specs.Run.{most_bytes, unframed, framed, frame_at, sheet_in, Walk, walk_from, left, faults, framing}
use Rattle.runs.specs.Run.{Frame}

-- ── One length ──

-- a sheet lies after the place of its length and within the run
pub record FrameLies (run : List ℕ) (at : ℕ) (f : Frame) : Type 0 where
  pub after : at < f.start
  pub ordered : f.start ≤ f.end
  pub inside : f.end ≤ length run

-- a length with no fault is a number that does not pass the end
pub record Whole (run : List ℕ) (at : ℕ) (f : Frame) : Type 0 where
  pub len : ℕ
  pub next : ℕ
  pub read : number_at run at ≡ Value len next
  pub fits : len ≤ length run - next
  pub is : f ≡ framed next (next + len)

abbrev Framed : List ℕ → ℕ → Frame → Type 0
Framed run at f = Whole run at f ⊎ Blamed run (at + 2 + length run) f.fault

frame_found : (run : List ℕ) (at : ℕ) → Framed run at (frame_at run at)
unfolding frame_at
frame_found run at =
    onward-ind (Framed run at) unframed (number_at run at) _
    (λ f e. inr (blamed-later (omega arith) (number-refused run at f e)))
    (λ len next e.
    pick_ind (Framed run at) (ltb (length run - next) len) (unframed (fault 1 (length run))) (framed next (next + len))
    (λ t. inr (record { some = omega arith; known = omega arith; inside = omega arith; near = omega arith }))
    (λ t. inl (record { len = len; next = next; read = e; fits = ltb-false (length run - next) len t; is = refl })))

pub sheet-framed : (run : List ℕ) (next len : ℕ) → sheet_in run (framed next (next + len)) ≡ take len (drop next run)
sheet-framed run next len = let size : next + len - next ≡ len = omega arith in ap (λ (k : ℕ). take k (drop next run)) size

module _ (run : List ℕ) (at : ℕ) where
  pub frame-whole : (frame_at run at).fault.number ≡ 0 → Whole run at (frame_at run at)
  frame-whole z = ⊎_elim (λ w. w) (λ b. absurd (omega (arith, b.some))) (frame_found run at)

  pub frame-lies : (frame_at run at).fault.number ≡ 0 → FrameLies run at (frame_at run at)
  frame-lies z =
      let w = frame-whole z in
      let n = number-lies run at w.len w.next w.read in
      rw w.is (record { after = n.after; ordered = omega arith; inside = omega (arith, n.inside, w.fits) })

  pub frame_refused : ((frame_at run at).fault.number ≡ 0 → ⊥) → Blamed run (at + 2 + length run) (frame_at run at).fault
  frame_refused n = ⊎_elim (λ w. absurd (n (ap (λ (f : Frame). f.fault.number) w.is))) (λ b. b) (frame_found run at)

  -- as the code finds it, by the number that was read
  pub framed-refused : (f : Fault) → number_at run at ≡ Refused f → frame_at run at ≡ unframed f
  unfolding frame_at
  framed-refused f e = rw e refl

  module _ (len next : ℕ) (e : number_at run at ≡ Value len next) where
    pub framed-short : length run - next < len → frame_at run at ≡ unframed (fault 1 (length run))
    unfolding frame_at
    framed-short h = rw (e, lt-ltb (length run - next) len h) refl

    pub framed-whole : len ≤ length run - next → frame_at run at ≡ framed next (next + len)
    unfolding frame_at
    framed-whole h = rw (e, le-ltb (length run - next) len h) refl

-- ── From a place on ──

-- what holds at the end, where a length is refused, and before a sheet where it holds after it, holds from every place on
module _ (run : List ℕ) (P : ℕ → Type 0) (ends : (at : ℕ) → length run ≤ at → P at)
    (stops : (at : ℕ) → at < length run → ((frame_at run at).fault.number ≡ 0 → ⊥) → P at)
    (goes : (at : ℕ) → at < length run → (frame_at run at).fault.number ≡ 0 → P (frame_at run at).end → P at) where
  in_turns : (turns at : ℕ) → length run ≤ at + turns → P at
  in_turns zero at h = ends at (omega arith)
  in_turns (suc turns) at h =
      ⊎_elim (λ l. go l (λ b. in_turns turns (frame_at run at).end b) (ℕ_discrete (frame_at run at).fault.number 0)) (ends at) (lt-or-le at (length run))
    where
      go : at < length run → (length run ≤ (frame_at run at).end + turns → P (frame_at run at).end) → Dec ((frame_at run at).fault.number ≡ 0) → P at
      go l rest (yes z) = let f = frame-lies run at z in goes at l z (rest (omega (arith, f.after, f.ordered)))
      go l rest (no n) = stops at l n

  pub by-turns : (at : ℕ) → P at
  by-turns at = in_turns (length run) at (omega arith)

module _ {A : Type 0} (w : Walk A) (run : List ℕ) where
  abbrev walk : ℕ → ℕ → A
  walk at turns = walk_from w run at turns

  walk_end : (at turns : ℕ) → length run ≤ at → walk at turns ≡ w.done
  unfolding walk_from
  walk_end at zero h = refl
  walk_end at (suc turns) h = rw (le-leb (length run) at h) refl

  module _ (at : ℕ) (before : at < length run) where
    walk-stop : (turns : ℕ) → length run ≤ at + turns → ((frame_at run at).fault.number ≡ 0 → ⊥) → walk at turns ≡ w.refuse (frame_at run at).fault
    unfolding walk_from
    walk-stop zero h n = absurd (omega arith)
    walk-stop (suc turns) h n = rw (lt-leb (length run) at before, ne_eqb (frame_at run at).fault.number 0 n) refl

    walk_more : (turns : ℕ) → length run ≤ at + turns → (frame_at run at).fault.number ≡ 0
        → walk at turns ≡ w.more (sheet_in run (frame_at run at)) (walk (frame_at run at).end (turns - 1))
    unfolding walk_from
    walk_more zero h z = absurd (omega arith)
    walk_more (suc turns) h z =
        let one : turns ≡ suc turns - 1 = omega arith in
        rw (lt-leb (length run) at before, eq-eqb (frame_at run at).fault.number 0 z) (ap (λ (k : ℕ). w.more (sheet_in run (frame_at run at)) (walk (frame_at run at).end k)) one)

  walk-enough : (at k m : ℕ) → length run ≤ at + k → length run ≤ at + m → walk at k ≡ walk at m
  walk-enough =
      by-turns run (λ at. (k m : ℕ) → length run ≤ at + k → length run ≤ at + m → walk at k ≡ walk at m)
      (λ at l k m h g. walk_end at k l ∙ sym (walk_end at m l))
      (λ at l n k m h g. walk-stop at l k h n ∙ sym (walk-stop at l m g n))
      (λ at l z rest k m h g. let f = frame-lies run at z in
      walk_more at l k h z ∙ ap (w.more (sheet_in run (frame_at run at)))
      (rest (k - 1) (m - 1) (omega (arith, f.after, f.ordered)) (omega (arith, f.after, f.ordered))) ∙ sym (walk_more at l m g z))

  pub left_end : (at : ℕ) → length run ≤ at → left w run at ≡ w.done
  left_end at h = walk_end at (length run - at) h

  pub left-stop : (at : ℕ) → at < length run → ((frame_at run at).fault.number ≡ 0 → ⊥) → left w run at ≡ w.refuse (frame_at run at).fault
  left-stop at h n = walk-stop at h (length run - at) (omega arith) n

  pub left-more : (at : ℕ) → at < length run → (frame_at run at).fault.number ≡ 0
      → left w run at ≡ w.more (sheet_in run (frame_at run at)) (left w run (frame_at run at).end)
  left-more at h z =
      let f = frame-lies run at z in
      walk_more at h (length run - at) (omega arith) z
      ∙ ap (w.more (sheet_in run (frame_at run at))) (walk-enough (frame_at run at).end _ _ (omega (arith, f.after, f.ordered)) (omega arith))

-- ── The framing of a run ──

pub framing-left : (run : List ℕ) → length run ≤ most_bytes → framing run ≡ left faults run 0
unfolding framing
framing-left run few = rw (le-ltb most_bytes (length run) few) refl

-- no fault, or one within the run and within the bytes that a run may have
abbrev Ended : List ℕ → Fault → Type 0
Ended run f = (f ≡ fault 0 0) ⊎ Blamed run most_bytes f

framing-ended : (run : List ℕ) → Ended run (framing run)
unfolding framing
framing-ended run =
    pick_ind (Ended run) (ltb most_bytes (length run)) (fault 3 0) (left faults run 0)
    (λ t. inr (record { some = omega arith; known = omega arith; inside = omega arith; near = omega arith }))
    (λ t. let few = ltb-false most_bytes (length run) t in
    by-turns run (λ at. Ended run (left faults run at)) (λ at l. inl (left_end faults run at l))
    (λ at l n. let b = frame_refused run at n in
    rw (left-stop faults run at l n) (inr (record { some = b.some; known = b.known; inside = b.inside; near = omega (arith, b.inside) })))
    (λ at l z e. rw (left-more faults run at l z) e) 0)

pub framing-blamed : (run : List ℕ) → ((framing run).number ≡ 0 → ⊥) → Blamed run most_bytes (framing run)
framing-blamed run n = ⊎_elim (λ e. absurd (n (ap (λ (f : Fault). f.number) e))) (λ b. b) (framing-ended run)

-- a run whose framing has no fault is not too long
pub run-few : (run : List ℕ) → (framing run).number ≡ 0 → length run ≤ most_bytes
unfolding framing
run-few run =
    pick_ind (λ (f : Fault). f.number ≡ 0 → length run ≤ most_bytes) (ltb most_bytes (length run)) (fault 3 0) (left faults run 0)
    (λ t z. absurd (omega arith)) (λ t z. ltb-false most_bytes (length run) t)
