-- The reason that is computed holds, and none that is named before it does: each is passed only where its test fails, and the tests decide what the reasons say.
-- So of a picture that is not in the family some reason is always found.
use Prim.Native.Nat.{ℕ, suc, ◌+◌, ◌-◌, ◌*◌, ◌/◌, ◌%◌, ◌≤◌, ◌<◌}
use mathlib.Core.Path.{◌≡◌, refl, sym, ◌∙◌}
use mathlib.Core.Bool.{Bool, true, false, not, true≢false, false≢true}
use native.Mathlib.Omega.{arith}
use borrow.Author.Tests.{ltb-true, ltb-false, ne_eqb}
use lib.Arith.{digits_div, digits_mod}
use lib.Dec.{ltb}
use Rattle.names.proofs.Picking.{pick_ind}
use Rattle.books.specs.Contents.{Contents}
use Rattle.books.specs.Picture.{Picture}
use Rattle.books.specs.Derives.{Member}
use Rattle.books.specs.Decide.{derives?}
use Rattle.books.proofs.Deciding.{decided}
use Rattle.pieces.specs.Table.{cut}
use Rattle.pieces.specs.declared.piece.Piece.{Piece}
use Rattle.pieces.proofs.CellsFirst.{cell-before}
use Rattle.names.proofs.Least.{Least, least-is}
use Rattle.pieces.proofs.LargestPiece.{Finds, nothing, something, largest-finds}
use Rattle.sizes.specs.Card.{sized?}
use Rattle.sizes.specs.Promise.{Sized}
use Rattle.sizes.proofs.CardRight.{sized-decided}
use Rattle.reasons.specs.declared.reason.Reason.{Reason}
use Rattle.reasons.specs.declared.reason.Reason.TheVariants.{NoReason, Unnamed, NoSuchSize, Largest, NoPiece}
use Rattle.reasons.specs.Reason.{kind}
use Rattle.reasons.specs.Holds.{Named, SizeOnly, StartPiece, Holds, First}
use Rattle.reasons.specs.Why.{rules_name, unnamed?, first_unnamed, largest_derived, piece_reason, reason_of}
use Rattle.reasons.proofs.CellNumbers.{row_of, column-of, number-before}
use Rattle.reasons.proofs.Naming.{naming-decided, unnamed-none}

not-false : (t : Bool) → not t ≡ true → t ≡ false
not-false true e = absurd (false≢true e)
not-false false e = refl

not-true : (t : Bool) → not t ≡ false → t ≡ true
not-true true e = refl
not-true false e = absurd (true≢false e)

module _ (b : Contents) (p : Picture) where
  -- every cell of the picture has a colour that a rule names
  abbrev pub AllNamed : Type 0
  AllNamed = (i j : ℕ) → i < p.rows → j < p.cols → Named b (p.cell i j)

  -- ── Reasons that do not hold ──

  before-unnamed : (s : Reason) → kind s < 1 → Holds b p s → ⊥
  before-unnamed NoReason h x = x
  before-unnamed (Unnamed r c) h x = omega arith
  before-unnamed NoSuchSize h x = omega arith
  before-unnamed (Largest t l u v) h x = omega arith
  before-unnamed NoPiece h x = omega arith

  module _ (named : AllNamed) where
    before-size : (s : Reason) → kind s < 2 → Holds b p s → ⊥
    before-size NoReason h x = x
    before-size (Unnamed r c) h x = x.unnamed (named r c x.in_rows x.in_cols)
    before-size NoSuchSize h x = omega arith
    before-size (Largest t l u v) h x = omega arith
    before-size NoPiece h x = omega arith

    module _ (sized : Sized b p.rows p.cols) where
      before-piece : (s : Reason) → kind s < 3 → Holds b p s → ⊥
      before-piece NoReason h x = x
      before-piece (Unnamed r c) h x = x.unnamed (named r c x.in_rows x.in_cols)
      before-piece NoSuchSize h x = x sized
      before-piece (Largest t l u v) h x = omega arith
      before-piece NoPiece h x = omega arith

      before-none : ((q : Piece) → StartPiece b p q → ⊥) → (s : Reason) → kind s < 4 → Holds b p s → ⊥
      before-none none NoReason h x = x
      before-none none (Unnamed r c) h x = x.unnamed (named r c x.in_rows x.in_cols)
      before-none none NoSuchSize h x = x sized
      before-none none (Largest t l u v) h x = none _ x.1.is
      before-none none NoPiece h x = omega arith

  -- ── Reasons that hold ──

  module _ (some_rows : 1 ≤ p.rows) (some_cols : 1 ≤ p.cols) where
    abbrev cells : ℕ
    cells = p.rows * p.cols

    search : Least (unnamed? b p) 0 cells (first_unnamed b p)
    unfolding first_unnamed
    search = least-is (unnamed? b p) 0 cells

    passed-named : (k : ℕ) → unnamed? b p k ≡ false → Named b (p.cell (k / p.cols) (k % p.cols))
    unfolding unnamed?
    passed-named k e =
        let n = p.cell (k / p.cols) (k % p.cols) in
        (naming-decided b n).0 (not-true (rules_name b n b.rules) e)

    -- a cell below the first one that no rule names
    passed : (i j : ℕ) → j < p.cols → i * p.cols + j < first_unnamed b p → Named b (p.cell i j)
    passed i j h low =
        rw (digits_div i {m = p.cols} {r = j} h, digits_mod i {m = p.cols} {r = j} h)
        at (passed-named (i * p.cols + j) (search.lower (i * p.cols + j) (omega arith) low))

    unnamed-first : first_unnamed b p < cells → First b p (Unnamed (first_unnamed b p / p.cols) (first_unnamed b p % p.cols))
    unfolding unnamed?
    unnamed-first found =
        let k = first_unnamed b p in
        record {
          holds = record {
            in_rows = row_of p.cols k some_cols p.rows found;
            in_cols = column-of p.cols k some_cols;
            unnamed = unnamed-none b (p.cell (k / p.cols) (k % p.cols)) (not-false _ (search.accepted (omega arith)));
            earlier = λ i j hi hj before. passed i j hj (number-before p.cols k some_cols i j hj before);
          };
          none_before = before-unnamed;
        }

    all_named : cells ≤ first_unnamed b p → AllNamed
    all_named past i j hi hj = passed i j hj (omega (arith, cell-before p.rows p.cols i j hi hj))

    module _ (named : AllNamed) where
      size-first : (Sized b p.rows p.cols → ⊥) → First b p NoSuchSize
      size-first none = record { holds = none; none_before = before-size named }

      piece-first : SizeOnly b p → First b p (piece_reason (largest_derived b p))
      unfolding largest_derived
      piece-first only = go (largest_derived b p) (largest-finds (λ q. derives? b b.start (cut p q)) p.rows p.cols)
        where
          go : (q : Piece) → Finds (λ q. derives? b b.start (cut p q)) p.rows p.cols q → First b p (piece_reason q)
          go q (nothing e none) =
              let nowhere : (x : Piece) → StartPiece b p x → ⊥ = λ x s. none x s.inside ((decided b b.start (cut p x)).1 s.derived) in
              rw e (record { holds = (only, nowhere); none_before = before-none named only.sized nowhere })
          go q (something i t low) =
              let tall : q.height ≡ 0 → ⊥ = λ z. omega (arith, i.tall) in
              rw (ne_eqb q.height 0 tall)
              (record {
                holds = (
                  only,
                  record {
                    is = record { inside = i; derived = (decided b b.start (cut p q)).0 t };
                    greatest = λ x s. (low x s.inside ((decided b b.start (cut p x)).1 s.derived)).0;
                    earliest = λ x s same. (low x s.inside ((decided b b.start (cut p x)).1 s.derived)).1 same;
                  },
                );
                none_before = before-piece named only.sized;
              })

    sized-there : (sized? b (p.rows - 1) (p.cols - 1) ≡ true → Sized b p.rows p.cols)
        × (Sized b p.rows p.cols → sized? b (p.rows - 1) (p.cols - 1) ≡ true)
    sized-there =
        let er : suc (p.rows - 1) ≡ p.rows = omega arith in
        let ec : suc (p.cols - 1) ≡ p.cols = omega arith in
        rw (er, ec) at (sized-decided b (p.rows - 1) (p.cols - 1))

    -- ── The theorem ──

    pub reason-first : (Member b p → ⊥) → First b p (reason_of b p)
    unfolding reason_of
    reason-first other =
        pick_ind (First b p) (ltb (first_unnamed b p) cells) _ _
        (λ e. unnamed-first (ltb-true (first_unnamed b p) cells e))
        (λ e. let named = all_named (ltb-false (first_unnamed b p) cells e) in
        pick_ind (First b p) (sized? b (p.rows - 1) (p.cols - 1)) _ _
        (λ f. piece-first named (record { sized = sized-there.0 f; other = other }))
        (λ f. size-first named (λ s. true≢false (sym (sized-there.1 s) ∙ f))))
