-- Only one reason is the first that holds: of two that are, neither is named before the other, and two of one number that hold name the same cell or the same piece.
use Prim.Native.Nat.{ℕ, ◌<◌}
use mathlib.Core.Path.{◌≡◌, refl, ap, ap₂}
use mathlib.Core.Logic.{inl, inr, ⊎_elim}
use native.Mathlib.Omega.{arith}
use Rattle.names.proofs.Tests.{lt-or-le}
use Rattle.books.specs.Contents.{Contents}
use Rattle.books.specs.Picture.{Picture}
use Rattle.pieces.specs.Pieces.{piece}
use Rattle.pieces.specs.Area.{area}
use Rattle.pieces.specs.declared.piece.Piece.{Piece}
use Rattle.pieces.proofs.Slots.{slot-inj}
use Rattle.reasons.specs.declared.reason.Reason.{Reason}
use Rattle.reasons.specs.declared.reason.Reason.TheVariants.{NoReason, Unnamed, NoSuchSize, Largest, NoPiece}
use Rattle.reasons.specs.Reason.{kind}
use Rattle.reasons.specs.Holds.{FirstUnnamed, LargestPiece, Holds, First}

neither-less : (m n : ℕ) → (m < n → ⊥) → (n < m → ⊥) → m ≡ n
neither-less m n f g = ⊎_elim (λ h. absurd (f h)) (λ h. ⊎_elim (λ k. absurd (g k)) (λ k. omega arith) (lt-or-le n m)) (lt-or-le m n)

module _ (b : Contents) (p : Picture) where
  -- one cell is the first
  same_row : (r c i j : ℕ) → FirstUnnamed b p r c → FirstUnnamed b p i j → r ≡ i
  same_row r c i j x y =
      neither-less r i
      (λ h. x.unnamed (y.earlier r c x.in_rows x.in_cols (inl h)))
      (λ h. y.unnamed (x.earlier i j y.in_rows y.in_cols (inl h)))

  same-column : (r c i j : ℕ) → FirstUnnamed b p r c → FirstUnnamed b p i j → c ≡ j
  same-column r c i j x y =
      let row = same_row r c i j x y in
      neither-less c j
      (λ h. x.unnamed (y.earlier r c x.in_rows x.in_cols (inr (row, h))))
      (λ h. y.unnamed (x.earlier i j y.in_rows y.in_cols (inr (same_row i j r c y x, h))))

  -- one piece is the largest
  same-piece : (q x : Piece) → LargestPiece b p q → LargestPiece b p x → q ≡ x
  same-piece q x u v =
      let level : area q ≡ area x = omega (arith, u.greatest x v.is, v.greatest q u.is) in
      let back : area x ≡ area q = omega arith in
      slot-inj p.rows p.cols q x u.is.inside v.is.inside (omega (arith, u.earliest x v.is back, v.earliest q u.is level))

  alike : (r s : Reason) → kind r ≡ kind s → Holds b p r → Holds b p s → r ≡ s
  alike NoReason s e x y = absurd x
  alike (Unnamed r c) NoReason e x y = absurd y
  alike (Unnamed r c) (Unnamed i j) e x y = ap₂ Unnamed (same_row r c i j x y) (same-column r c i j x y)
  alike (Unnamed r c) NoSuchSize e x y = absurd (omega arith)
  alike (Unnamed r c) (Largest t l h w) e x y = absurd (omega arith)
  alike (Unnamed r c) NoPiece e x y = absurd (omega arith)
  alike NoSuchSize NoReason e x y = absurd y
  alike NoSuchSize (Unnamed i j) e x y = absurd (omega arith)
  alike NoSuchSize NoSuchSize e x y = refl
  alike NoSuchSize (Largest t l h w) e x y = absurd (omega arith)
  alike NoSuchSize NoPiece e x y = absurd (omega arith)
  alike (Largest t l h w) NoReason e x y = absurd y
  alike (Largest t l h w) (Unnamed i j) e x y = absurd (omega arith)
  alike (Largest t l h w) NoSuchSize e x y = absurd (omega arith)
  alike (Largest t l h w) (Largest t' l' h' w') e x y =
      ap (λ (q : Piece). Largest q.top q.left q.height q.width) (same-piece (piece h w t l) (piece h' w' t' l') x.1 y.1)
  alike (Largest t l h w) NoPiece e x y = absurd (omega arith)
  alike NoPiece NoReason e x y = absurd y
  alike NoPiece (Unnamed i j) e x y = absurd (omega arith)
  alike NoPiece NoSuchSize e x y = absurd (omega arith)
  alike NoPiece (Largest t l h w) e x y = absurd (omega arith)
  alike NoPiece NoPiece e x y = refl

  -- ── The theorem ──

  pub first-only : (r s : Reason) → First b p r → First b p s → r ≡ s
  first-only r s x y =
      alike r s (neither-less (kind r) (kind s) (λ h. y.none_before r h x.holds) (λ h. x.none_before s h y.holds)) x.holds y.holds

  -- it names something
  pub first_some : (r : Reason) → First b p r → r ≡ NoReason → ⊥
  first_some r x e = rw e at x.holds
