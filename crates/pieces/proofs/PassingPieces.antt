-- The pieces are passed in the order of the table.
use Prim.Native.Nat.{ℕ, suc, ◌+◌, ◌<◌}
use mathlib.Core.Path.{◌≡◌, refl, sym, ap, ◌∙◌}
use mathlib.Core.List.{[], ◌∷◌}
use native.Mathlib.Omega.{arith}
use lib.ListN.{length, drop, get_or, drop_of_length-le}
use lib.Seq.{drop-cons}
use Rattle.books.specs.Size.{Within}
use Rattle.books.specs.declared.size.Size.{Size}
use Rattle.pieces.specs.Most.{most}
use Rattle.pieces.specs.Pieces.{piece, pieces, total}
use Rattle.pieces.specs.declared.piece.Piece.{Piece}
use Rattle.pieces.specs.inner.Passing.{Passing}
use Rattle.pieces.proofs.CellsFirst.{slot-cell}
use Rattle.pieces.proofs.Slots.{get_or-slot, length-pieces}

pub passing_start : (s : Size) → Within most s.rows s.cols → Passing s (piece 1 1 0 0) 0 (total s.rows s.cols)
passing_start s room = record {
  room = room;
  all = refl;
  upto = omega arith;
  here = omega (arith, slot-cell s.rows s.cols 0 0);
  inside = λ h. record { tall = omega arith; wide = omega arith; low = omega (arith, room.rows_some); right = omega (arith, room.cols_some) };
}

module _ (s : Size) (p : Piece) (slot count : ℕ) (w : Passing s p slot count) where
  pub passing_none : slot ≡ count → drop slot (pieces s.rows s.cols) ≡ []
  passing_none e = drop_of_length-le (pieces s.rows s.cols) {i = slot} (omega (arith, w.all, length-pieces s.rows s.cols))

  module _ (less : slot < count) where
    pub passing_first : drop slot (pieces s.rows s.cols) ≡ p ∷ drop (slot + 1) (pieces s.rows s.cols)
    passing_first =
        let m = s.rows in
        let n = s.cols in
        let i = w.inside less in
        let due : slot < length (pieces m n) = omega (arith, w.all, length-pieces m n) in
        let e : get_or (pieces m n) slot p ≡ p = ap (λ (x : ℕ). get_or (pieces m n) x p) (sym w.here) ∙ get_or-slot m n p i p in
        let next : suc slot ≡ slot + 1 = omega arith in
        drop-cons (pieces m n) slot p due
        ∙ ap (λ (q : Piece). q ∷ drop (suc slot) (pieces m n)) e
        ∙ ap (λ (x : ℕ). p ∷ drop x (pieces m n)) next
