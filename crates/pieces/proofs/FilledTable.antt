-- Where the cells are right, and what fires at a cut is what the joins of a book give, the table that is filled is that of the picture: slot by slot the entry due is
-- made of earlier ones, which are right, since the parts of a piece have smaller slots and are the parts of its picture.
use mathlib.Core.Path.{◌≡◌, refl, sym, ap, ap₂, ◌∙◌}
use mathlib.Core.List.{List, ◌∷◌, ◌++◌, map, append_assoc}
use mathlib.Core.Logic.{⊎_elim}
use Prim.Native.Nat.{ℕ, zero, suc, ◌+◌, ◌-◌, ◌*◌, ◌≤◌, ◌<◌}
use native.Mathlib.Nat.{add_assoc}
use native.Mathlib.Numerals.{add-one}
use native.Mathlib.Omega.{arith}
use lib.ListN.{length, get_or, take, drop, set, length-map, drop_of_length-le, get_or-append}
use lib.Seq.{ext_get_or, get_or-take, length-take-le, take_all, take-suc, drop-cons, set_at}
use Rattle.books.specs.Contents.{Contents}
use Rattle.books.specs.Keeps.{Sound}
use Rattle.books.specs.Picture.{Picture, size, first, rest}
use Rattle.books.specs.declared.rule.Dir.TheVariants.{Across as across, Down as down}
use Rattle.books.specs.declared.rule.Dir.{Dir}
use Rattle.books.specs.Decide.{pictures}
use Rattle.books.proofs.Deciding.{given}
use Rattle.pieces.specs.Pieces.{piece, pieces, Inside, total, slot_of}
use Rattle.pieces.specs.Parts.{reach, first_part, rest_part}
use Rattle.pieces.specs.Table.{cut, entry, table}
use Rattle.pieces.specs.Masks.{painters_from}
use Rattle.pieces.specs.Filling.{at, cuts_of, entry_of, joined_from, joined_by, painted_by}
use Rattle.pieces.specs.Derivation.{filled}
use Rattle.pieces.specs.Rights.{Fires}
use Rattle.pieces.specs.declared.piece.Piece.{Piece}
use Rattle.pieces.proofs.PartsRight.{parts-right}
use Rattle.pieces.proofs.CellsFirst.{slot-cell, cell-or-larger, cell-before, cells-few, large-after}
use Rattle.pieces.proofs.PartsOfPieces.{first-inside, rest-inside, first-before, rest-before}
use Rattle.pieces.proofs.TableEntries.{get_or-map, table-length, table_at}
use Rattle.pieces.proofs.Slots.{length-pieces, slot_lt, get_or-slot, slot-onto}

-- ── The pieces, one after the other ──

module _ (fire : Dir → ℕ → ℕ → ℕ) (m n : ℕ) (t : List ℕ) where
  pub one-joined : (k : ℕ) (p : Piece) → Inside m n p → slot_of m n p ≡ k
      → joined_from fire m n (drop k (pieces m n)) t ≡ joined_from fire m n (drop (k + 1) (pieces m n)) (set t k (entry_of fire m n t p))
  unfolding joined_from
  one-joined k p i here =
      let low : k < length (pieces m n) = omega (arith, length-pieces m n, slot_lt m n p i) in
      let is : get_or (pieces m n) k p ≡ p = ap (λ (x : ℕ). get_or (pieces m n) x p) (sym here) ∙ get_or-slot m n p i p in
      ap (λ (l : List Piece). joined_from fire m n l t) (drop-cons (pieces m n) k p low ∙ ap (λ (x : Piece). x ∷ drop (suc k) (pieces m n)) is)
      ∙ ap₂ (λ (x y : ℕ). joined_from fire m n (drop x (pieces m n)) (set t y (entry_of fire m n t p))) (sym (add-one k)) here

  pub all-joined : (k : ℕ) → total m n ≤ k → joined_from fire m n (drop k (pieces m n)) t ≡ t
  unfolding joined_from
  all-joined k done = rw (drop_of_length-le (pieces m n) {i = k} (omega (arith, length-pieces m n)))

-- ── The parts of a piece of a picture ──

first_cut : (d : Dir) (p : Picture) (q : Piece) (k : ℕ) → cut p (first_part d k q) ≡ first d k (cut p q)
first_cut across p q k = refl
first_cut down p q k = refl

rest-cut : (d : Dir) (p : Picture) (q : Piece) (k : ℕ) → cut p (rest_part d k q) ≡ rest d k (cut p q)
rest-cut across p q k = λ z. record { rows = q.height; cols = q.width - k; cell = λ i j. p.cell (q.top + i) (add_assoc q.left k j z) }
rest-cut down p q k = λ z. record { rows = q.height - k; cols = q.width; cell = λ i j. p.cell (add_assoc q.top k i z) (q.left + j) }

size-cut : (d : Dir) (p : Picture) (q : Piece) → size d (cut p q) ≡ reach d q
size-cut across p q = refl
size-cut down p q = refl

module _ (b : Contents) (sound : Sound b) (p : Picture) (fire : Dir → ℕ → ℕ → ℕ) (fires : Fires b.rules fire) where
  abbrev m : ℕ
  m = p.rows

  abbrev n : ℕ
  n = p.cols

  -- one entry, from right entries of the parts
  pub right-entry : (t : List ℕ) (q : Piece) → Inside m n q → 2 < q.height + q.width
      → ((x : Piece) → Inside m n x → slot_of m n x < slot_of m n q → at m n t x ≡ entry b (cut p x)) → entry_of fire m n t q ≡ entry b (cut p q)
  unfolding cuts_of entry
  right-entry t q i large right =
      parts-right (pictures b) b.rules b.motifs (λ r m. (sound.rules_fit r m).head_fits) _ (given b) fire fires
      (λ d k. at m n t (first_part d k q)) (λ d k. at m n t (rest_part d k q)) (cut p q)
      (λ d k h l. let s : k < reach d q = omega (arith, size-cut d p q) in
      right (first_part d k q) (first-inside d k i h (omega arith)) (first-before d k i h s) ∙ ap (entry b) (first_cut d p q k))
      (λ d k h l. let s : k < reach d q = omega (arith, size-cut d p q) in
      right (rest_part d k q) (rest-inside d k i s) (rest-before d k i h s) ∙ ap (entry b) (rest-cut d p q k))
      (λ c s. omega (arith, s.0, s.1))

  -- ── Slot by slot ──

  module _ (before : List ℕ) (room : total m n ≤ length before) where
    -- with the first k entries of the table
    abbrev upto : ℕ → List ℕ
    upto k = take k (table b p) ++ drop k before

    begun : (k : ℕ) → k ≤ total m n → length (take k (table b p)) ≡ k
    begun k h = length-take-le k (table b p) (omega (arith, table-length b p))

    upto-at : (k i : ℕ) → k ≤ total m n → i < k → get_or (upto k) i 0 ≡ get_or (table b p) i 0
    upto-at k i h l = get_or-append (take k (table b p)) (drop k before) 0 i (omega (arith, begun k h)) ∙ get_or-take k (table b p) i 0 l

    upto-more : (k : ℕ) → k < total m n → set (upto k) k (get_or (table b p) k 0) ≡ upto (k + 1)
    upto-more k h =
        let low : k < length (table b p) = omega (arith, table-length b p) in
        rw (drop-cons before k 0 (omega arith), set_at (take k (table b p)) _ _ (get_or (table b p) k 0) k (begun k (omega arith)), add-one, take-suc (table b p) k 0 low, append_assoc)

    -- the piece that is due is no cell
    large : (q : Piece) → Inside m n q → m * n ≤ slot_of m n q → 2 < q.height + q.width
    large q i h =
        ⊎_elim (λ l. l)
        (λ e. absurd (omega (arith, ap (slot_of m n) e, slot-cell m n q.top q.left, cell-before m n q.top q.left (omega arith) (omega arith))))
        (cell-or-larger m n q i)

    due : (k : ℕ) (q : Piece) → Inside m n q → slot_of m n q ≡ k → m * n ≤ k → entry_of fire m n (upto k) q ≡ get_or (table b p) k 0
    due k q i here h =
        let low : k < total m n = omega (arith, slot_lt m n q i) in
        right-entry (upto k) q i (large q i (omega arith))
        (λ x j l. upto-at k (slot_of m n x) (omega arith) (omega arith) ∙ table_at b p x j)
        ∙ sym (table_at b p q i) ∙ ap (λ (x : ℕ). get_or (table b p) x 0) here

    joined-table : (left k : ℕ) → k + left ≡ total m n → m * n ≤ k
        → joined_from fire m n (drop k (pieces m n)) (upto k) ≡ table b p ++ drop (total m n) before
    joined-table zero k e h =
        let all : k ≡ total m n = omega arith in
        all-joined fire m n (upto k) k (omega arith) ∙ ap upto all ∙ ap (λ (l : List ℕ). l ++ drop (total m n) before) (take_all (total m n) (table b p) (omega (arith, table-length b p)))
    joined-table (suc left) k e h =
        let (q, i, here) = slot-onto m n k (omega arith) in
        one-joined fire m n (upto k) k q i here
        ∙ ap (joined_from fire m n (drop (k + 1) (pieces m n)))
        (ap (set (upto k) k) (due k q i here h) ∙ upto-more k (omega arith))
        ∙ joined-table left (k + 1) (omega arith) (omega arith)

    -- ── Over the painted cells ──

    module _ (some : (1 ≤ m) × (1 ≤ n)) (masks cells : List ℕ) (all : m * n ≤ length cells)
        (right : (r c : ℕ) → r < m → c < n → get_or masks (painters_from + get_or cells (r * n + c) 0) 0 ≡ entry b (cut p (piece 1 1 r c))) where
      abbrev mask : ℕ → ℕ
      mask c = get_or masks (painters_from + c) 0

      cell-right : (i : ℕ) → i < m * n → mask (get_or cells i 0) ≡ get_or (table b p) i 0
      cell-right i h =
          let (q, inside, here) = slot-onto m n i (omega (arith, cells-few m n some.0 some.1)) in
          ⊎_elim
          (λ l. absurd (omega (arith, large-after m n q inside l)))
          (λ e.
          let at-cell : q.top * n + q.left ≡ i = sym (slot-cell m n q.top q.left) ∙ ap (slot_of m n) e ∙ here in
          ap (λ (k : ℕ). mask (get_or cells k 0)) (sym at-cell) ∙ right q.top q.left (omega arith) (omega arith)
          ∙ ap (λ (x : Piece). entry b (cut p x)) e ∙ sym (table_at b p q inside) ∙ ap (λ (k : ℕ). get_or (table b p) k 0) here)
          (cell-or-larger m n q inside)

      painted-table : map mask (take (m * n) cells) ≡ take (m * n) (table b p)
      painted-table =
          let count = length-map (take (m * n) cells) mask ∙ length-take-le (m * n) cells all in
          ext_get_or 0 (map mask (take (m * n) cells)) (take (m * n) (table b p)) (count ∙ sym (begun (m * n) (cells-few m n some.0 some.1)))
          (λ i h. let low : i < m * n = omega arith in
          get_or-map mask (take (m * n) cells) i 0 (omega (arith, length-map (take (m * n) cells) mask)) ∙ ap mask (get_or-take (m * n) cells i 0 low)
          ∙ cell-right i low ∙ sym (get_or-take (m * n) (table b p) i 0 low))

      pub filled-table : joined_by fire m n (painted_by masks cells (m * n) before) ≡ filled b p before
      unfolding joined_by
      filled-table =
          let fits = cells-few m n some.0 some.1 in
          ap (λ (l : List ℕ). joined_from fire m n (drop (m * n) (pieces m n)) (l ++ drop (m * n) before)) painted-table
          ∙ joined-table (total m n - m * n) (m * n) (omega arith) (omega arith)
