-- The search for the largest piece passes the pieces in the order of the table: the largest so far, taken on with those that are left, is the largest of all.
use Prim.Native.Nat.{ℕ, suc, ◌+◌, ◌≤◌, ◌<◌}
use mathlib.Core.Path.{◌≡◌, refl, sym, ap, ◌∙◌, subst}
use mathlib.Core.Bool.{Bool, true, false}
use native.Mathlib.Omega.{arith}
use borrow.Author.Tests.{lt-ltb, le-ltb}
use mathlib.Core.List.{List, [], ◌∷◌}
use mathlib.Core.Logic.{◌⊎◌, inl, inr}
use lib.Dec.{ltb}
use lib.ListN.{length, get_or, drop, drop_of_length-le, length-drop}
use lib.Seq.{drop-cons}
use Rattle.names.proofs.Tests.{and-make, and-on, and-off}
use Rattle.names.specs.Bits.{is_set}
use Rattle.names.specs.Pick.{and_then}
use Rattle.pieces.specs.declared.piece.Piece.{Piece}
use Rattle.pieces.specs.Pieces.{Inside, pieces, total, slot_of}
use Rattle.pieces.specs.Area.{area}
use Rattle.pieces.specs.Largest.{marked, no_piece, larger, largest_from, largest_of}
use Rattle.pieces.specs.inner.Larger.{area_if}
use Rattle.pieces.proofs.Slots.{get_or-slot, slot-onto, length-pieces}

-- One step: the piece due is taken where its area, counted only if it is accepted, is larger.
module _ (test : Piece → Bool) (best p : Piece) where
  larger-as : (t : Bool) → test p ≡ t
      → (area best < area_if t p → (larger test best p ≡ p) × (area_if t p ≡ area p)) × (area_if t p ≤ area best → larger test best p ≡ best)
  unfolding larger area_if
  larger-as true e = (
    λ h. (simp (and-make (ltb (area best) (area p)) (λ _. test p) (lt-ltb (area best) (area p) h) e), refl),
    λ h. simp (and-off (ltb (area best) (area p)) (λ _. test p) (le-ltb (area best) (area p) h)),
  )
  larger-as false e = (λ h. absurd (omega arith), λ _. simp (never (ltb (area best) (area p))))
    where
      never : (u : Bool) → and_then u (λ _. test p) ≡ false
      never true = and-on true (λ _. test p) refl ∙ e
      never false = and-off false (λ _. test p) refl

-- What holds while the pieces are passed beside the entries: k of each are behind.
pub record Looking (test : Piece → Bool) (m n : ℕ) (entries : List ℕ) (best : Piece) (size : ℕ) (left : List Piece) (rest : List ℕ) : Type 0 where
  pub behind : ℕ
  pub upto : behind ≤ total m n
  pub pieces_are : left ≡ drop behind (pieces m n)
  pub entries_are : rest ≡ drop behind entries
  pub sized : size ≡ area best
  pub still : largest_from test best left ≡ largest_of test m n

uncons : {A : Type 0} (xs : List A) (k : ℕ) (d x : A) (t : List A) → drop k xs ≡ x ∷ t → (k < length xs) × (get_or xs k d ≡ x) × (drop (k + 1) xs ≡ t)
uncons xs k d x t e =
    let long : k < length xs = omega (arith, length-drop k xs, ap length e) in
    let f = drop-cons xs k d long in
    let next : drop (suc k) xs ≡ drop (k + 1) xs = let s : suc k ≡ k + 1 = omega arith in ap (λ (i : ℕ). drop i xs) s in
    (long, cc (e, f), cc (e, f, next))

pub look-start : (test : Piece → Bool) (m n : ℕ) (entries : List ℕ) → Looking test m n entries no_piece 0 (pieces m n) entries
unfolding largest_of
look-start test m n entries = record { behind = 0; upto = omega arith; pieces_are = refl; entries_are = refl; sized = refl; still = refl }

module _ (m n a : ℕ) {entries : List ℕ} {best : Piece} {size : ℕ} {left : List Piece} {rest : List ℕ}
    (w : Looking (marked m n entries a) m n entries best size left rest) where
  pub look-end : total m n ≤ length entries → (left ≡ []) ⊎ (length rest ≡ 0) → best ≡ largest_of (marked m n entries a) m n
  unfolding largest_from
  look-end enough (inl e) = rw e at w.still
  look-end enough (inr e) =
      let done : total m n ≤ w.behind = omega (arith, enough, length-drop w.behind entries, ap length w.entries_are, e) in
      let none : left ≡ [] = w.pieces_are ∙ drop_of_length-le (pieces m n) {i = w.behind} (omega (arith, length-pieces m n)) in
      rw none at w.still

  module _ {p : Piece} {x : ℕ} {ps : List Piece} {xs : List ℕ} (e : left ≡ p ∷ ps) (f : rest ≡ x ∷ xs) where
    one : (w.behind < length (pieces m n)) × (get_or (pieces m n) w.behind p ≡ p) × (drop (w.behind + 1) (pieces m n) ≡ ps)
    one = uncons (pieces m n) w.behind p p ps (sym w.pieces_are ∙ e)

    other : (w.behind < length entries) × (get_or entries w.behind 0 ≡ x) × (drop (w.behind + 1) entries ≡ xs)
    other = uncons entries w.behind 0 x xs (sym w.entries_are ∙ f)

    placed : Inside m n p × (slot_of m n p ≡ w.behind)
    placed =
        let (q, i, s) = slot-onto m n w.behind (omega (arith, one.0, length-pieces m n)) in
        let same : q ≡ p = sym (get_or-slot m n q i p) ∙ ap (λ (k : ℕ). get_or (pieces m n) k p) s ∙ one.1 in
        (subst (λ (y : Piece). Inside m n y) same i, ap (λ (y : Piece). slot_of m n y) (sym same) ∙ s)

    pub look-inside : Inside m n p
    look-inside = placed.0

    pub look-test : marked m n entries a p ≡ is_set x a
    unfolding marked
    look-test = ap (λ (k : ℕ). is_set (get_or entries k 0) a) placed.1 ∙ ap (λ (y : ℕ). is_set y a) other.1

    look-on : (b : Piece) (s : ℕ) → larger (marked m n entries a) best p ≡ b → s ≡ area b → Looking (marked m n entries a) m n entries b s ps xs
    unfolding largest_from
    look-on b s g sized = record {
      behind = w.behind + 1;
      upto = omega (arith, one.0, length-pieces m n);
      pieces_are = sym one.2;
      entries_are = sym other.2;
      sized = sized;
      still = rw (← g) (sym (ap (largest_from (marked m n entries a) best) e) ∙ w.still);
    }

    module _ {c : ℕ} (counted : c ≡ area_if (is_set x a) p) where
      by : c ≡ area_if (marked m n entries a p) p
      by = counted ∙ ap (λ (t : Bool). area_if t p) (sym look-test)

      pub look-takes : size < c → Looking (marked m n entries a) m n entries p c ps xs
      look-takes h =
          let (g, k) = (larger-as (marked m n entries a) best p (marked m n entries a p) refl).0 (omega (arith, w.sized, by)) in
          look-on p c g (by ∙ k)

      pub look-leaves : c ≤ size → Looking (marked m n entries a) m n entries best size ps xs
      look-leaves h = look-on best size ((larger-as (marked m n entries a) best p (marked m n entries a p) refl).1 (omega (arith, w.sized, by))) w.sized
