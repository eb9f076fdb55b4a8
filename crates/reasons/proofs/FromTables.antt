-- Where a slice holds the table of a picture, the reason that it shows is the reason: an entry of a cell is 0 exactly where no rule names its colour, since
-- only a colour rule derives a cell, and the start's bit is set exactly at the pieces that it derives.
use Prim.Native.Nat.{ℕ, zero, suc, ◌-◌, ◌*◌, ◌/◌, ◌%◌, ◌≤◌, ◌<◌}
use mathlib.Core.Path.{◌≡◌, refl, sym, ap, ap₂, ◌∙◌}
use mathlib.Core.Bool.{Bool, true, false, not}
use mathlib.Core.List.{List}
use mathlib.Core.Logic.{◌⊎◌, inl, inr}
use native.Mathlib.Nat.{div-add-mod'}
use native.Mathlib.Omega.{arith}
use borrow.Author.Tests.{eq-eqb, ne_eqb, lt-ltb, le-ltb}
use lib.Dec.{eqb}
use lib.ListN.{length, get_or}
use Rattle.names.proofs.Tests.{true-or-false}
use Rattle.books.specs.Contents.{Contents}
use Rattle.books.specs.Picture.{Picture}
use Rattle.books.specs.declared.rule.Dir.TheVariants.{Across as across, Down as down}
use Rattle.books.specs.Derives.{Derives, paint, join}
use Rattle.books.specs.Decide.{derives?}
use Rattle.books.specs.Keeps.{Sound}
use Rattle.books.specs.Size.{Within}
use Rattle.books.proofs.Deciding.{refused}
use Rattle.names.specs.Counted.{least}
use Rattle.pieces.specs.Most.{most}
use Rattle.pieces.specs.Pieces.{piece, Inside, slot_of}
use Rattle.pieces.specs.Table.{cut, entry}
use Rattle.names.specs.Bits.{bits}
use Rattle.pieces.specs.Largest.{marked, largest_in}
use Rattle.pieces.specs.declared.piece.Piece.{Piece}
use Rattle.names.proofs.Bits.{none-set}
use Rattle.pieces.proofs.CellsFirst.{slot-cell}
use Rattle.pieces.proofs.Entries.{derives-entry, entry-tests}
use Rattle.pieces.proofs.ExactViews.{motif-below}
use Rattle.pieces.proofs.Judging.{Holds, held-long, held-entry}
use Rattle.names.proofs.Least.{least-same}
use Rattle.pieces.proofs.LargestPiece.{largest-same}
use Rattle.pieces.proofs.LookedThrough.{room_fits, in_table}
use Rattle.sizes.specs.Card.{sized?}
use Rattle.reasons.specs.declared.reason.Reason.TheVariants.{NoSuchSize}
use Rattle.reasons.specs.Holds.{Named}
use Rattle.reasons.specs.Why.{rules_name, unnamed?, first_unnamed, largest_derived, cell_reason, piece_reason, reason_of}
use Rattle.reasons.specs.inner.FromTable.{bare, reason_in}
use Rattle.reasons.proofs.CellNumbers.{row_of, column-of}
use Rattle.reasons.proofs.Naming.{naming-decided, unnamed-none}

-- ── The entry of a cell ──

-- a number whose chosen bits are all left out
no_bits : (k : ℕ) (test : ℕ → Bool) → ((a : ℕ) → a < k → test a ≡ false) → bits k test ≡ 0
unfolding bits
no_bits zero test none = refl
no_bits (suc k) test none =
    rw (no_bits k test (λ a h. none a (omega arith)), none k (omega arith))

module _ (b : Contents) (q : Picture) where
  -- a picture of one cell is derived by its colour's rules alone
  cell-named : (a : ℕ) → q.rows ≡ 1 → q.cols ≡ 1 → Derives b a q → Named b (q.cell 0 0)
  cell-named a hr hc (paint c has _ _ called) = record { head = a; colour = c; ruled = has; called = called }
  cell-named a hr hc (join across l r k has some inside x y) = absurd (omega arith)
  cell-named a hr hc (join down l r k has some inside x y) = absurd (omega arith)

  named-entry : Sound b → q.rows ≡ 1 → q.cols ≡ 1 → Named b (q.cell 0 0) → entry b q ≡ 0 → ⊥
  named-entry sound hr hc x z =
      let d : Derives b x.head q = paint x.colour x.ruled hr hc x.called in
      none-set x.head (rw z at (derives-entry b q x.head (motif-below b sound d) d))

  unnamed-entry : q.rows ≡ 1 → q.cols ≡ 1 → (Named b (q.cell 0 0) → ⊥) → entry b q ≡ 0
  unfolding entry
  unnamed-entry hr hc none = no_bits b.motifs (λ a. derives? b a q) (λ a h. (refused b a q).1 (λ x. none (cell-named a hr hc x)))

-- ── What is found ──

module _ (has : Bool) (work : List ℕ) (start m n k : ℕ) (least_bare : k ≡ least (bare work) 0 (m * n)) where
  pub cell-found : k < m * n → cell_reason n k ≡ reason_in has work start m n
  unfolding reason_in
  cell-found h = rw (← least_bare, lt-ltb k (m * n) h)

  pub size-found : m * n ≤ k → has ≡ false → NoSuchSize ≡ reason_in has work start m n
  unfolding reason_in
  size-found h e = rw (← least_bare, le-ltb k (m * n) h, e)

  pub piece-found : m * n ≤ k → has ≡ true → piece_reason (largest_in work start m n) ≡ reason_in has work start m n
  unfolding reason_in
  piece-found h e = rw (← least_bare, le-ltb k (m * n) h, e)

-- ── A slice that holds the table ──

module _ (b : Contents) (p : Picture) (sound : Sound b) (sizes : Within most p.rows p.cols) (work : List ℕ) (held : Holds b p work) where
  -- the entry of the cell that is number i
  cell-entry : (i : ℕ) → i < p.rows * p.cols → get_or work i 0 ≡ entry b (cut p (piece 1 1 (i / p.cols) (i % p.cols)))
  cell-entry i h =
      let t = i / p.cols in
      let l = i % p.cols in
      let low : t < p.rows = row_of p.cols i sizes.cols_some p.rows h in
      let near : l < p.cols = column-of p.cols i sizes.cols_some in
      let at : slot_of p.rows p.cols (piece 1 1 t l) ≡ i = slot-cell p.rows p.cols t l ∙ div-add-mod' i p.cols in
      ap (λ (k : ℕ). get_or work k 0) (sym at)
      ∙ held-entry b p work held (piece 1 1 t l) (record { tall = omega arith; wide = omega arith; low = omega arith; right = omega arith })

  bare-unnamed : (i : ℕ) → i < p.rows * p.cols → bare work i ≡ unnamed? b p i
  unfolding bare unnamed?
  bare-unnamed i h = rw (cell-entry i h) (go (true-or-false (rules_name b (p.cell t l) b.rules)))
    where
      t : ℕ
      t = i / p.cols

      l : ℕ
      l = i % p.cols

      q : Picture
      q = cut p (piece 1 1 t l)

      here : q.cell 0 0 ≡ p.cell t l
      here = ap₂ p.cell (omega arith) (omega arith)

      go : (rules_name b (p.cell t l) b.rules ≡ true) ⊎ (rules_name b (p.cell t l) b.rules ≡ false)
          → eqb (entry b q) 0 ≡ not (rules_name b (p.cell t l) b.rules)
      go (inl e) = rw e (ne_eqb (entry b q) 0 (named-entry b q sound refl refl (rw here ((naming-decided b (p.cell t l)).0 e))))
      go (inr e) = rw e (eq-eqb (entry b q) 0 (unnamed-entry b q refl refl (rw here (unnamed-none b (p.cell t l) e))))

  marked-derived : (q : Piece) → Inside p.rows p.cols q → marked p.rows p.cols work b.start q ≡ derives? b b.start (cut p q)
  unfolding marked
  marked-derived q i = rw (held-entry b p work held q i) (entry-tests b (cut p q) b.start sound.start_fits)

  first-shown : least (bare work) 0 (p.rows * p.cols) ≡ first_unnamed b p
  unfolding first_unnamed
  first-shown = least-same (bare work) (unnamed? b p) 0 (p.rows * p.cols) (λ j h. bare-unnamed j (omega arith))

  largest-shown : largest_in work b.start p.rows p.cols ≡ largest_derived b p
  unfolding largest_derived
  largest-shown =
      in_table work b.start p.rows p.cols (room_fits p.rows p.cols (length work) sizes (held-long b p work held))
      ∙ largest-same (marked p.rows p.cols work b.start) (λ q. derives? b b.start (cut p q)) p.rows p.cols marked-derived

  pub reason-shown : reason_in (sized? b (p.rows - 1) (p.cols - 1)) work b.start p.rows p.cols ≡ reason_of b p
  unfolding reason_in reason_of
  reason-shown = rw (first-shown, largest-shown)
