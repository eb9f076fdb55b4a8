-- Going from one piece with the cell to the next is going through all pieces: those between have not got the cell, and are passed over.
use mathlib.Core.Path.{◌≡◌, sym, ap, ◌∙◌}
use mathlib.Core.List.{List}
use Prim.Native.Nat.{ℕ, ◌+◌, ◌-◌, ◌<◌}
use native.Mathlib.Omega.{arith}
use lib.ListN.{drop, set}
use Rattle.pieces.specs.Pieces.{piece, Inside, pieces, slot_of}
use Rattle.pieces.specs.Refill.{HasCell, has_cell?, refilled_from, refilled}
use Rattle.pieces.specs.inner.Refill.{NextWith}
use Rattle.pieces.specs.declared.piece.Piece.{Piece}
use Rattle.pieces.proofs.InOrder.{After, taller, wider, lower, righter, later-after}
use Rattle.pieces.proofs.Refilled.{has-cell, has-not, one-refilled, none-refilled}

module _ (due : List ℕ → Piece → ℕ) (m n row column : ℕ) (row_on : row < m) (column_on : column < n) where
  abbrev pub left_from : ℕ → List ℕ → List ℕ
  left_from k t = refilled_from due m n (has_cell? row column) (drop k (pieces m n)) t

  abbrev pub cell : Piece
  cell = piece 1 1 row column

  pub cell-on : Inside m n cell
  cell-on = record { tall = omega arith; wide = omega arith; low = omega arith; right = omega arith }

  pub cell-has : HasCell row column cell
  cell-has = record { from_top = omega arith; upto_bottom = omega arith; from_left = omega arith; upto_right = omega arith }

  -- no piece with the cell stands before the cell itself
  none_before : (x : Piece) → Inside m n x → HasCell row column x → After x cell → ⊥
  none_before x inx hx (taller h) = omega (arith, inx.tall)
  none_before x inx hx (wider h w) = omega (arith, inx.wide)
  none_before x inx hx (lower h w t) = omega (arith, hx.upto_bottom)
  none_before x inx hx (righter h w t l) = omega (arith, hx.upto_right)

  pub passing-starts : (t : List ℕ) → left_from (slot_of m n cell) t ≡ refilled due m n row column t
  unfolding refilled
  passing-starts t =
      let e : 0 + slot_of m n cell ≡ slot_of m n cell = omega arith in
      sym (none-refilled due m n (has_cell? row column) (slot_of m n cell) 0 t
      (λ x inx _ less. has-not row column x (λ hx. none_before x inx hx (later-after m n inx cell-on (omega arith))))
      ∙ ap (λ (k : ℕ). left_from k t) e)

  pub passing-goes : (t : List ℕ) (p q : Piece) → Inside m n p → HasCell row column p → NextWith m n row column p q
      → left_from (slot_of m n p) t ≡ left_from (slot_of m n q) (set t (slot_of m n p) (due t p))
  passing-goes t p q inp hp next =
      let new = set t (slot_of m n p) (due t p) in
      let more = slot_of m n q - (slot_of m n p + 1) in
      let e : slot_of m n p + 1 + more ≡ slot_of m n q = omega (arith, next.later) in
      one-refilled due m n (has_cell? row column) t p inp ((has-cell row column p).1 hp)
      ∙ none-refilled due m n (has_cell? row column) more (slot_of m n p + 1) new
      (λ x inx from less. has-not row column x (λ hx. omega (arith, next.none_between x inx hx (omega arith))))
      ∙ ap (λ (k : ℕ). left_from k new) e
