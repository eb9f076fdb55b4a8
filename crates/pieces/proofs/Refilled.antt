-- The pieces that have a cell are passed one after the other, and each gets the entry due to it by the slice as it then stands. Since what is due to a piece goes by
-- entries of smaller slots alone, and these are not touched again, in the end each has what is due by the slice that is left; and no other entry is touched.
use mathlib.Core.Path.{◌≡◌, refl, sym, ap, ◌∙◌, subst}
use mathlib.Core.Bool.{Bool, true, false, true≢false}
use mathlib.Core.List.{List, ◌∷◌}
use mathlib.Core.Logic.{◌↔◌, ⊎_elim}
use Prim.Native.Nat.{ℕ, zero, suc, ◌+◌, ◌≤◌, ◌<◌}
use native.Mathlib.Numerals.{add-one}
use native.Mathlib.Omega.{arith}
use native.Mathlib.Decide.{dec_lt}
use borrow.Author.Tests.{leb-true, le-leb, ltb-true, lt-ltb}
use lib.ListN.{length, get_or, drop, set, length-set, drop_of_length-le}
use lib.Seq.{drop-cons, get_or-set_same, get_or-set_other}
use Rattle.names.specs.Pick.{pick}
use Rattle.names.proofs.Tests.{true-or-false, lt-or-le, not-true-false, and_both, and-make}
use Rattle.pieces.specs.Pieces.{Inside, pieces, total, slot_of}
use Rattle.pieces.specs.Filling.{at}
use Rattle.pieces.specs.Refill.{HasCell, spans?, has_cell?, refilled_from, refilled}
use Rattle.pieces.specs.declared.piece.Piece.{Piece}
use Rattle.pieces.proofs.Slots.{length-pieces, slot_lt, get_or-slot, slot-inj, slot-onto}

-- ── The test for the cell ──

spans : (from long cell : ℕ) → (spans? from long cell ≡ true) ↔ ((from ≤ cell) × (cell < from + long))
unfolding spans?
spans from long cell = (
  λ e. let (x, y) = and_both _ _ e in (leb-true _ _ x, ltb-true _ _ y),
  λ (x, y). and-make _ _ (le-leb _ _ x) (lt-ltb _ _ y),
)

pub has-cell : (row column : ℕ) (q : Piece) → (has_cell? row column q ≡ true) ↔ HasCell row column q
unfolding has_cell?
has-cell row column q = (
  λ e.
      let (x, y) = and_both _ _ e in
      let (a, b) = (spans q.top q.height row).0 x in
      let (c, d) = (spans q.left q.width column).0 y in
      record { from_top = a; upto_bottom = b; from_left = c; upto_right = d },
  λ h. and-make _ _ ((spans q.top q.height row).1 (h.from_top, h.upto_bottom)) ((spans q.left q.width column).1 (h.from_left, h.upto_right)),
)

pub has-not : (row column : ℕ) (q : Piece) → (HasCell row column q → ⊥) → has_cell? row column q ≡ false
has-not row column q n = not-true-false (has_cell? row column q) (λ e. n ((has-cell row column q).0 e))

-- ── One piece after the other ──

module _ (due : List ℕ → Piece → ℕ) (m n : ℕ) (chosen : Piece → Bool) where
  abbrev left_from : ℕ → List ℕ → List ℕ
  left_from k t = refilled_from due m n chosen (drop k (pieces m n)) t

  one_piece : (t : List ℕ) (p : Piece) → Inside m n p
      → left_from (slot_of m n p) t ≡ left_from (slot_of m n p + 1) (pick (chosen p) (set t (slot_of m n p) (due t p)) t)
  unfolding refilled_from
  one_piece t p i =
      let k = slot_of m n p in
      let low : k < length (pieces m n) = omega (arith, length-pieces m n, slot_lt m n p i) in
      ap (λ (l : List Piece). refilled_from due m n chosen l t) (drop-cons (pieces m n) k p low ∙ ap (λ (x : Piece). x ∷ drop (suc k) (pieces m n)) (get_or-slot m n p i p))
      ∙ ap (λ (x : ℕ). left_from x (pick (chosen p) (set t k (due t p)) t)) (sym (add-one k))

  pub one-refilled : (t : List ℕ) (p : Piece) → Inside m n p → chosen p ≡ true → left_from (slot_of m n p) t ≡ left_from (slot_of m n p + 1) (set t (slot_of m n p) (due t p))
  one-refilled t p i c = one_piece t p i ∙ rw c refl

  one-passed : (t : List ℕ) (p : Piece) → Inside m n p → chosen p ≡ false → left_from (slot_of m n p) t ≡ left_from (slot_of m n p + 1) t
  one-passed t p i c = one_piece t p i ∙ rw c refl

  pub all-refilled : (k : ℕ) (t : List ℕ) → total m n ≤ k → left_from k t ≡ t
  unfolding refilled_from
  all-refilled k t done = rw (drop_of_length-le (pieces m n) {i = k} (omega (arith, length-pieces m n)))

  -- where none is chosen nothing changes
  pub none-refilled : (more k : ℕ) (t : List ℕ) → ((x : Piece) → Inside m n x → k ≤ slot_of m n x → slot_of m n x < k + more → chosen x ≡ false)
      → left_from k t ≡ left_from (k + more) t
  none-refilled zero k t none = let e : k ≡ k + 0 = omega arith in ap (λ (x : ℕ). left_from x t) e
  none-refilled (suc more) k t none =
      ⊎_elim
      (λ l.
      let (p, i, here) = slot-onto m n k l in
      let e : k + 1 + more ≡ k + suc more = omega arith in
      rw (← here) (one-passed t p i (none p i (omega arith) (omega arith)))
      ∙ none-refilled more (k + 1) t (λ x j a b. none x j (omega arith) (omega arith))
      ∙ ap (λ (x : ℕ). left_from x t) e)
      (λ l. all-refilled k t l ∙ sym (all-refilled (k + suc more) t (omega arith)))
      (lt-or-le k (total m n))

-- what is due to the pieces with the cell decides
module _ (m n row column : ℕ) (f g : List ℕ → Piece → ℕ) (same : (t : List ℕ) (q : Piece) → Inside m n q → HasCell row column q → f t q ≡ g t q) where
  same_from : (more k : ℕ) (t : List ℕ) → k + more ≡ total m n
      → refilled_from f m n (has_cell? row column) (drop k (pieces m n)) t ≡ refilled_from g m n (has_cell? row column) (drop k (pieces m n)) t
  same_from zero k t e = all-refilled f m n (has_cell? row column) k t (omega arith) ∙ sym (all-refilled g m n (has_cell? row column) k t (omega arith))
  same_from (suc more) k t e =
      let (p, i, here) = slot-onto m n k (omega arith) in
      let step = ap (λ (x : ℕ). x + 1) here in
      rw (← here) (⊎_elim
      (λ h. one-refilled f m n _ t p i h ∙ ap (refilled_from f m n (has_cell? row column) (drop (slot_of m n p + 1) (pieces m n))) (ap (set t (slot_of m n p)) (same t p i ((has-cell row column p).0 h)))
      ∙ rw step (same_from more (k + 1) _ (omega arith)) ∙ sym (one-refilled g m n _ t p i h))
      (λ h. one-passed f m n _ t p i h ∙ rw step (same_from more (k + 1) t (omega arith)) ∙ sym (one-passed g m n _ t p i h))
      (true-or-false (has_cell? row column p)))

  pub refilled_same : (t : List ℕ) → refilled f m n row column t ≡ refilled g m n row column t
  unfolding refilled
  refilled_same t = same_from (total m n) 0 t (omega arith)

-- ── What is left in the end ──

module _ (due : List ℕ → Piece → ℕ) (m n row column : ℕ) (before : List ℕ) where
  -- the slot is that of no piece with the cell
  abbrev pub Elsewhere : ℕ → Type 0
  Elsewhere i = (q : Piece) → Inside m n q → HasCell row column q → slot_of m n q ≡ i → ⊥

  -- with the pieces of the first k slots passed
  pub record RefilledUpTo (k : ℕ) (t : List ℕ) : Type 0 where
    pub fresh : (q : Piece) → Inside m n q → HasCell row column q → slot_of m n q < k → at m n t q ≡ due t q
    pub kept : (i : ℕ) → Elsewhere i → get_or t i 0 ≡ get_or before i 0
    pub sized : length t ≡ length before

  module _ (room : total m n ≤ length before)
      (local : (s t : List ℕ) (q : Piece) → Inside m n q → ((i : ℕ) → i < slot_of m n q → get_or s i 0 ≡ get_or t i 0) → due s q ≡ due t q) where
    one_more : (k : ℕ) (t : List ℕ) (p : Piece) → Inside m n p → slot_of m n p ≡ k → HasCell row column p → RefilledUpTo k t → RefilledUpTo (k + 1) (set t k (due t p))
    one_more k t p i here has r =
        let new = due t p in
        let other : (j : ℕ) → (j ≡ k → ⊥) → get_or (set t k new) j 0 ≡ get_or t j 0 = λ j ne. get_or-set_other t k j new 0 ne in
        record {
          fresh = λ q inq hq l. go q inq hq l (dec_lt (slot_of m n q) k);
          kept = λ j far. other j (λ e. far p i has (here ∙ sym e)) ∙ r.kept j far;
          sized = length-set t k new ∙ r.sized;
        }
      where
        still : (q : Piece) → Inside m n q → slot_of m n q ≤ k → due t q ≡ due (set t k (due t p)) q
        still q inq l = local _ _ q inq (λ j h. sym (get_or-set_other t k j (due t p) 0 (λ e. omega arith)))

        go : (q : Piece) → Inside m n q → HasCell row column q → slot_of m n q < k + 1 → Dec (slot_of m n q < k) → at m n (set t k (due t p)) q ≡ due (set t k (due t p)) q
        go q inq hq l (yes h) = get_or-set_other t k (slot_of m n q) (due t p) 0 (λ e. omega arith) ∙ r.fresh q inq hq h ∙ still q inq (omega arith)
        go q inq hq l (no h) =
            let e : slot_of m n q ≡ k = omega arith in
            let is : p ≡ q = slot-inj m n p q i inq (here ∙ sym e) in
            ap (λ (x : ℕ). get_or (set t k (due t p)) x 0) e ∙ get_or-set_same t k (due t p) 0 (omega (arith, r.sized, slot_lt m n p i)) ∙ ap (due t) is ∙ still q inq (omega arith)

    passed : (k : ℕ) (t : List ℕ) (p : Piece) → Inside m n p → slot_of m n p ≡ k → (HasCell row column p → ⊥) → RefilledUpTo k t → RefilledUpTo (k + 1) t
    passed k t p i here none r =
        record {
          fresh = λ q inq hq l. ⊎_elim
              (λ h. r.fresh q inq hq h)
              (λ h. absurd (none (subst (HasCell row column) (slot-inj m n q p inq i (omega arith)) hq)))
              (lt-or-le (slot_of m n q) k);
          kept = r.kept;
          sized = r.sized;
        }

    to_end : (more k : ℕ) (t : List ℕ) → k + more ≡ total m n → RefilledUpTo k t → RefilledUpTo (total m n) (refilled_from due m n (has_cell? row column) (drop k (pieces m n)) t)
    to_end zero k t e r = rw (all-refilled due m n (has_cell? row column) k t (omega arith)) (subst (λ (x : ℕ). RefilledUpTo x t) (omega arith) r)
    to_end (suc more) k t e r =
        let (p, i, here) = slot-onto m n k (omega arith) in
        ⊎_elim
        (λ h.
        let step = one-refilled due m n (has_cell? row column) t p i h in
        rw (rw here at step) (to_end more (k + 1) (set t k (due t p)) (omega arith) (one_more k t p i here ((has-cell row column p).0 h) r)))
        (λ h.
        let step = one-passed due m n (has_cell? row column) t p i h in
        rw (rw here at step) (to_end more (k + 1) t (omega arith) (passed k t p i here (λ y. true≢false (sym ((has-cell row column p).1 y) ∙ h)) r)))
        (true-or-false (has_cell? row column p))

    pub refilled-ends : RefilledUpTo (total m n) (refilled due m n row column before)
    unfolding refilled
    refilled-ends = to_end (total m n) 0 before (omega arith) (record { fresh = λ q inq hq l. absurd (omega arith); kept = λ i far. refl; sized = refl })
