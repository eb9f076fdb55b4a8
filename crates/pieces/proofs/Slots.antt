-- The slot of a piece is its place in the list of pieces: the list is made of blocks of one height, these of blocks of one width, these of
-- rows, and the slot adds up the blocks before the piece. So slots and pieces correspond one to one.
use mathlib.Core.Path.{◌≡◌, refl, sym, ap, ◌∙◌, subst}
use mathlib.Core.List.Memᴰ
use mathlib.Core.List.{List, [], ◌∷◌, Memᴰ}
use Prim.Native.Nat.{ℕ, suc, ◌+◌, ◌-◌, ◌*◌, ◌<◌}
use native.Mathlib.Nat.{mul-one, mul_comm}
use native.Mathlib.Omega.{arith}
use lib.ListN.{length, get_or}
use Rattle.pieces.specs.Pieces.{piece, Inside, pieces, total, stretches, slot_at, slot_of}
use Rattle.names.specs.Counted.{each}
use Rattle.pieces.specs.declared.piece.Piece.{Piece}
use Rattle.pieces.proofs.Sums.{sum, sum_same, sum_below, sum-const, sum-scale, sum-find, length-each, get_or-each, member-each}
use Rattle.pieces.proofs.Stretches.{stretches-sum, total-stretches}

-- ── The blocks, and how many pieces each has ──

abbrev pub lefts : ℕ → ℕ → ℕ → ℕ → List Piece
lefts n u v t = each (n - v) (λ l. piece (suc u) (suc v) t l ∷ [])

abbrev pub tops : ℕ → ℕ → ℕ → ℕ → List Piece
tops m n u v = each (m - u) (λ t. lefts n u v t)

abbrev pub widths : ℕ → ℕ → ℕ → List Piece
widths m n u = each n (λ v. tops m n u v)

abbrev in_tops : ℕ → ℕ → ℕ → ℕ → ℕ
in_tops m n u v = (m - u) * (n - v)

abbrev in_widths : ℕ → ℕ → ℕ → ℕ
in_widths m n u = (m - u) * stretches n n

sum-tops : (m n u k : ℕ) → sum k (λ v. in_tops m n u v) ≡ (m - u) * stretches n k
sum-tops m n u k = sum-scale (m - u) (λ v. n - v) k ∙ ap (λ (x : ℕ). (m - u) * x) (sym (stretches-sum n k))

sum-widths : (m n k : ℕ) → sum k (λ u. in_widths m n u) ≡ stretches m k * stretches n n
sum-widths m n k =
    sum_same _ (λ u. stretches n n * (m - u)) k (λ u h. mul_comm (m - u) (stretches n n))
    ∙ sum-scale (stretches n n) (λ u. m - u) k
    ∙ ap (λ (x : ℕ). stretches n n * x) (sym (stretches-sum m k)) ∙ mul_comm (stretches n n) (stretches m k)

length-lefts : (n u v t : ℕ) → length (lefts n u v t) ≡ n - v
length-lefts n u v t = length-each (λ l. piece (suc u) (suc v) t l ∷ []) (λ l. 1) (λ l. refl) (n - v) ∙ sum-const 1 (n - v) ∙ mul-one (n - v)

length-tops : (m n u v : ℕ) → length (tops m n u v) ≡ in_tops m n u v
length-tops m n u v = length-each (λ t. lefts n u v t) (λ t. n - v) (λ t. length-lefts n u v t) (m - u) ∙ sum-const (n - v) (m - u)

length-widths : (m n u : ℕ) → length (widths m n u) ≡ in_widths m n u
length-widths m n u = length-each (λ v. tops m n u v) (λ v. in_tops m n u v) (λ v. length-tops m n u v) n ∙ sum-tops m n u n

pub length-pieces : (m n : ℕ) → length (pieces m n) ≡ total m n
unfolding pieces
length-pieces m n =
    length-each (λ u. widths m n u) (λ u. in_widths m n u) (λ u. length-widths m n u) m ∙ sum-widths m n m ∙ sym (total-stretches m n)

-- ── The place of a piece ──

abbrev in_row : ℕ → ℕ → ℕ → ℕ → ℕ
in_row n v t l = sum t (λ i. n - v) + l

abbrev in_size : ℕ → ℕ → ℕ → ℕ → ℕ → ℕ → ℕ
in_size m n u v t l = sum v (λ i. in_tops m n u i) + in_row n v t l

slot-sums : (m n u v t l : ℕ) → slot_at m n u v t l ≡ sum u (λ i. in_widths m n i) + in_size m n u v t l
unfolding slot_at
slot-sums m n u v t l = omega (arith, sum-widths m n u, sum-tops m n u v, sum-const (n - v) t)

module _ (m n u v t l : ℕ) (ht : t < m - u) (hl : l < n - v) where
  row_below : in_row n v t l < in_tops m n u v
  row_below = rw (← sum-const (n - v) (m - u)) (sum_below (λ i. n - v) t (m - u) l ht hl)

  -- Of pieces of one height those of a smaller width come first, and those of a smaller height come before all others.
  pub narrower : (v' t' l' : ℕ) → v < v' → slot_at m n u v t l < slot_at m n u v' t' l'
  narrower v' t' l' h =
      omega (arith, slot-sums m n u v t l, slot-sums m n u v' t' l', sum_below (λ i. in_tops m n u i) v v' (in_row n v t l) h row_below)

  module _ (hv : v < n) where
    size_below : in_size m n u v t l < in_widths m n u
    size_below = rw (← sum-tops m n u n) (sum_below (λ i. in_tops m n u i) v n (in_row n v t l) hv row_below)

    pub flatter : (u' v' t' l' : ℕ) → u < u' → slot_at m n u v t l < slot_at m n u' v' t' l'
    flatter u' v' t' l' h =
        omega (arith, slot-sums m n u v t l, slot-sums m n u' v' t' l', sum_below (λ i. in_widths m n i) u u' (in_size m n u v t l) h size_below)

    module _ (hu : u < m) where
      listed-lt : slot_at m n u v t l < total m n
      listed-lt =
          rw (total-stretches m n, ← sum-widths m n m, slot-sums m n u v t l)
          (sum_below (λ i. in_widths m n i) u m (in_size m n u v t l) hu size_below)

      get_or-place : (d : Piece) → get_or (pieces m n) (slot_at m n u v t l) d ≡ piece (suc u) (suc v) t l
      unfolding pieces
      get_or-place d =
          ap (λ (k : ℕ). get_or (each m (λ u. widths m n u)) k d) (slot-sums m n u v t l)
          ∙ get_or-each (λ u. widths m n u) (λ u. in_widths m n u) (λ u. length-widths m n u) m u _ d hu size_below
          ∙ get_or-each (λ v. tops m n u v) (λ v. in_tops m n u v) (λ v. length-tops m n u v) n v _ d hv row_below
          ∙ get_or-each (λ t. lefts n u v t) (λ t. n - v) (λ t. length-lefts n u v t) (m - u) t l d ht hl
          ∙ subst (λ (k : ℕ). get_or (lefts n u v t) k d ≡ piece (suc u) (suc v) t l) (omega (arith, sum-const 1 l, mul-one l))
          (get_or-each (λ l. piece (suc u) (suc v) t l ∷ []) (λ l. 1) (λ l. refl) (n - v) l 0 d hl (omega arith))

-- ── Pieces as the code has them ──

module _ (m n : ℕ) (p : Piece) (i : Inside m n p) where
  pub slot_lt : slot_of m n p < total m n
  unfolding slot_of
  slot_lt = listed-lt m n (p.height - 1) (p.width - 1) p.top p.left (omega arith) (omega arith) (omega arith) (omega arith)

  pub get_or-slot : (d : Piece) → get_or (pieces m n) (slot_of m n p) d ≡ p
  unfolding slot_of
  get_or-slot d =
      get_or-place m n (p.height - 1) (p.width - 1) p.top p.left (omega arith) (omega arith) (omega arith) (omega arith) d
      ∙ same (omega arith) (omega arith)
    where
      same : {h w : ℕ} → h ≡ p.height → w ≡ p.width → piece h w p.top p.left ≡ p
      same a b = rw (a, b)

-- Two pieces with one slot are one piece, ...
pub slot-inj : (m n : ℕ) (p q : Piece) → Inside m n p → Inside m n q → slot_of m n p ≡ slot_of m n q → p ≡ q
slot-inj m n p q i j e = sym (get_or-slot m n p i p) ∙ ap (λ (k : ℕ). get_or (pieces m n) k p) e ∙ get_or-slot m n q j p

-- ... and every slot is some piece's.
pub slot-onto : (m n i : ℕ) → i < total m n → (p : Piece) × Inside m n p × (slot_of m n p ≡ i)
unfolding slot_of
slot-onto m n i h = tall (sum-find (λ u. in_widths m n u) m i (omega (arith, total-stretches m n, sum-widths m n m)))
  where
    flat : (u v t l j k : ℕ) → u < m → v < n → t < m - u → l < n - v → i ≡ sum u (λ u. in_widths m n u) + j
        → j ≡ sum v (λ v. in_tops m n u v) + k → k ≡ sum t (λ t. n - v) + l → (p : Piece) × Inside m n p × (slot_of m n p ≡ i)
    flat u v t l j k hu hv ht hl a b c =
        let eu : suc u - 1 ≡ u = omega arith in
        let ev : suc v - 1 ≡ v = omega arith in (
          piece (suc u) (suc v) t l,
          record { tall = omega arith; wide = omega arith; low = omega arith; right = omega arith },
          rw (eu, ev) (omega (arith, slot-sums m n u v t l)),
        )

    deep : (u v j k : ℕ) → u < m → v < n → i ≡ sum u (λ u. in_widths m n u) + j → j ≡ sum v (λ v. in_tops m n u v) + k
        → (t : ℕ) × (l : ℕ) × (t < m - u) × (l < n - v) × (k ≡ sum t (λ t. n - v) + l) → (p : Piece) × Inside m n p × (slot_of m n p ≡ i)
    deep u v j k hu hv a b w = flat u v w.0 w.1 j k hu hv w.2 w.3 a b w.4

    wide : (u j : ℕ) → u < m → i ≡ sum u (λ u. in_widths m n u) + j
        → (v : ℕ) × (k : ℕ) × (v < n) × (k < in_tops m n u v) × (j ≡ sum v (λ v. in_tops m n u v) + k) → (p : Piece) × Inside m n p × (slot_of m n p ≡ i)
    wide u j hu a w =
        deep u w.0 j w.1 hu w.2 a w.4
        (sum-find (λ t. n - w.0) (m - u) w.1 (omega (arith, w.3, sum-const (n - w.0) (m - u))))

    tall : (u : ℕ) × (j : ℕ) × (u < m) × (j < in_widths m n u) × (i ≡ sum u (λ u. in_widths m n u) + j) → (p : Piece) × Inside m n p × (slot_of m n p ≡ i)
    tall w =
        wide w.0 w.1 w.2 w.4
        (sum-find (λ v. in_tops m n w.0 v) n w.1 (omega (arith, w.3, sum-tops m n w.0 n)))

-- What stands in the list is a piece of the sheet.
pub pieces-inside : (m n : ℕ) {p : Piece} → Memᴰ p (pieces m n) → Inside m n p
unfolding pieces
pieces-inside m n {p} h =
    let a = member-each (λ u. widths m n u) m h in
    let b = member-each (λ v. tops m n a.0 v) n a.2 in
    let c = member-each (λ t. lefts n a.0 b.0 t) (m - a.0) b.2 in
    let d = member-each (λ l. piece (suc a.0) (suc b.0) c.0 l ∷ []) (n - b.0) c.2 in
    rw (Memᴰ.eq_of_singleton d.2)
    (record { tall = omega arith; wide = omega arith; low = omega (arith, c.1); right = omega (arith, d.1) })
