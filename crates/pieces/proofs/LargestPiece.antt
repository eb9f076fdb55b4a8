-- The largest piece is accepted, none that is accepted exceeds it, and it is the first of its area: a later piece is taken only where it is larger, so that of the
-- same area the earliest stays.
use Prim.Native.Nat.{ℕ, zero, suc, ◌≤◌, ◌<◌}
use mathlib.Core.Path.{◌≡◌, refl, sym, ap, ◌∙◌}
use mathlib.Core.Bool.{Bool, true, false, true≢false}
use mathlib.Core.List.{List, [], ◌∷◌, Memᴰ}
use mathlib.Core.Logic.{◌⊎◌, inl, inr}
use native.Mathlib.Omega.{arith}
use borrow.Author.Tests.{ltb-true, ltb-false}
use lib.Dec.{ltb}
use lib.ListN.{length, get_or}
use Rattle.names.proofs.Picking.{pick_ind}
use Rattle.names.proofs.Tests.{true-or-false, and_both, and-on}
use Rattle.names.specs.Pick.{and_then}
use Rattle.pieces.specs.declared.piece.Piece.{Piece}
use Rattle.pieces.specs.Pieces.{Inside, pieces, slot_of}
use Rattle.pieces.specs.Area.{area}
use Rattle.pieces.specs.Largest.{no_piece, larger, largest_from, largest_of}
use Rattle.pieces.proofs.Cutting.{area-pos}
use Rattle.pieces.proofs.Slots.{slot_lt, get_or-slot, slot-onto, length-pieces, pieces-inside}

-- ── What is found ──

-- what holds at the front of a list and behind it holds at each place
each-place : (P : ℕ → Type 0) → P 0 → ((i : ℕ) → P (suc i)) → (i : ℕ) → P i
each-place P here behind zero = here
each-place P here behind (suc i) = behind i

module _ (test : Piece → Bool) where
  -- no accepted piece of a list at a place is larger than r, and one as large comes at j or later
  abbrev NoLarger : Piece → List Piece → ℕ → ℕ → Type 0
  NoLarger r l j i = i < length l → test (get_or l i no_piece) ≡ true → (area (get_or l i no_piece) ≤ area r) × (area (get_or l i no_piece) ≡ area r → j ≤ i)

  -- the best before a list is kept, or the piece at a place of the list is found: no accepted one is larger, and an earlier one is smaller
  data Ends (best : Piece) (l : List Piece) (r : Piece) : Type 0 where
    kept : r ≡ best → ((i : ℕ) → i < length l → test (get_or l i no_piece) ≡ true → area (get_or l i no_piece) ≤ area best) → Ends best l r
    found : (j : ℕ) → j < length l → r ≡ get_or l j no_piece → test r ≡ true → area best < area r
        → ((i : ℕ) → i < length l → test (get_or l i no_piece) ≡ true → (area (get_or l i no_piece) ≤ area r) × (area (get_or l i no_piece) ≡ area r → j ≤ i))
        → Ends best l r

  after-taken : (best q r : Piece) (l : List Piece) → test q ≡ true → area best < area q → Ends q l r → Ends best (q ∷ l) r
  after-taken best q r l t more (kept e low) =
      found 0 (omega arith) e (ap test e ∙ t) (omega (arith, ap area e))
      (each-place (NoLarger r (q ∷ l) 0)
      (λ _ _. (omega (arith, ap area e), λ _. omega arith))
      (λ i h u. (omega (arith, ap area e, low i (omega arith) u), λ _. omega arith)))
  after-taken best q r l t more (found j h e u more_there low) =
      found (suc j) (omega arith) e u (omega arith)
      (each-place (NoLarger r (q ∷ l) (suc j))
      (λ _ _. (omega arith, λ same. absurd (omega arith)))
      (λ i g v. ((low i (omega arith) v).0, λ same. omega (arith, (low i (omega arith) v).1 same))))

  after-left : (best q r : Piece) (l : List Piece) → (test q ≡ true → area q ≤ area best) → Ends best l r → Ends best (q ∷ l) r
  after-left best q r l less (kept e low) =
      kept e
      (each-place (λ i. i < length (q ∷ l) → test (get_or (q ∷ l) i no_piece) ≡ true → area (get_or (q ∷ l) i no_piece) ≤ area best)
      (λ _ u. less u)
      (λ i h u. low i (omega arith) u))
  after-left best q r l less (found j h e u more_there low) =
      found (suc j) (omega arith) e u more_there
      (each-place (NoLarger r (q ∷ l) (suc j))
      (λ _ v. (omega (arith, less v), λ same. absurd (omega (arith, less v))))
      (λ i g v. ((low i (omega arith) v).0, λ same. omega (arith, (low i (omega arith) v).1 same))))

  ends : (best : Piece) (l : List Piece) → Ends best l (largest_from test best l)
  unfolding largest_from larger
  ends best [] = kept refl (λ i h u. absurd (omega arith))
  ends best (q ∷ l) =
      pick_ind (λ (x : Piece). Ends best (q ∷ l) (largest_from test x l)) (and_then (ltb (area best) (area q)) (λ _. test q)) q best
      (λ e. let (more, t) = and_both (ltb (area best) (area q)) (λ _. test q) e in
      after-taken best q _ l t (ltb-true (area best) (area q) more) (ends q l))
      (λ e. after-left best q _ l (λ t. smaller t e (true-or-false (ltb (area best) (area q)))) (ends best l))
    where
      smaller : test q ≡ true → and_then (ltb (area best) (area q)) (λ _. test q) ≡ false
          → (ltb (area best) (area q) ≡ true) ⊎ (ltb (area best) (area q) ≡ false) → area q ≤ area best
      smaller t e (inl more) = absurd (true≢false (sym (and-on (ltb (area best) (area q)) (λ _. test q) more ∙ t) ∙ e))
      smaller t e (inr less) = ltb-false (area best) (area q) less

-- what is found on a sheet: no piece where none is accepted, and else an accepted one that none exceeds and that is the first of its area
pub data Finds (test : Piece → Bool) (m n : ℕ) (r : Piece) : Type 0 where
  nothing : r ≡ no_piece → ((q : Piece) → Inside m n q → test q ≡ true → ⊥) → Finds test m n r
  something : Inside m n r → test r ≡ true
      → ((q : Piece) → Inside m n q → test q ≡ true → (area q ≤ area r) × (area q ≡ area r → slot_of m n r ≤ slot_of m n q)) → Finds test m n r

pub largest-finds : (test : Piece → Bool) (m n : ℕ) → Finds test m n (largest_of test m n)
unfolding largest_of
largest-finds test m n = go (largest_from test no_piece (pieces m n)) (ends test no_piece (pieces m n))
  where
    listed : (q : Piece) → Inside m n q → slot_of m n q < length (pieces m n)
    listed q i = omega (arith, slot_lt m n q i, length-pieces m n)

    go : (r : Piece) → Ends test no_piece (pieces m n) r → Finds test m n r
    go r (kept e low) =
        nothing e (λ q i t. let a = low (slot_of m n q) (listed q i) (rw (get_or-slot m n q i no_piece) t) in
        let few : area q ≤ 0 = rw (get_or-slot m n q i no_piece) at a in
        omega (arith, area-pos m n q i))
    go r (found j h e t more low) =
        let (p, i, at) = slot-onto m n j (omega (arith, length-pieces m n)) in
        let same : r ≡ p = e ∙ ap (λ (x : ℕ). get_or (pieces m n) x no_piece) (sym at) ∙ get_or-slot m n p i no_piece in
        let here : slot_of m n r ≡ j = ap (slot_of m n) same ∙ at in
        something (rw same i) t
        (λ q iq u. let (a, b) = low (slot_of m n q) (listed q iq) (rw (get_or-slot m n q iq no_piece) u) in
        (rw (get_or-slot m n q iq no_piece) at a, λ z. omega (arith, here, b (ap area (get_or-slot m n q iq no_piece) ∙ z))))

-- ── Two tests that agree on the pieces of a sheet find the same ──

same_from : (s t : Piece → Bool) (l : List Piece) → ((q : Piece) → Memᴰ q l → s q ≡ t q) → (best : Piece) → largest_from s best l ≡ largest_from t best l
unfolding largest_from larger
same_from s t [] same best = refl
same_from s t (q ∷ l) same best =
    rw (same q (Memᴰ.head refl)) (same_from s t l (λ x m. same x (Memᴰ.tail m)) _)

pub largest-same : (s t : Piece → Bool) (m n : ℕ) → ((q : Piece) → Inside m n q → s q ≡ t q) → largest_of s m n ≡ largest_of t m n
unfolding largest_of
largest-same s t m n same = same_from s t (pieces m n) (λ q mem. same q (pieces-inside m n mem)) no_piece
