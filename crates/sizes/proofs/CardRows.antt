-- The rows that are written are those of the card: each bit is that of the start motif in the entry of its size, and the bits are counted row by row.
use Prim.Native.Nat.{ℕ, zero, suc, ◌+◌, ◌-◌, ◌*◌, ◌^◌, ◌≤◌, ◌<◌}
use mathlib.Core.Path.{◌≡◌, refl, sym, ap, ap₂, ◌∙◌}
use mathlib.Core.Bool.{Bool, true, false, true≢false}
use mathlib.Core.List.{List, [], ◌∷◌, ◌++◌, append_assoc}
use mathlib.Core.Logic.{⊎_elim}
use native.Mathlib.Nat.{one-mul, zero-mul, mul-le-mul}
use native.Mathlib.Numerals.{add-one}
use native.Mathlib.Omega.{arith}
use lib.Arith.{digits_lt}
use lib.Dec.{eqb}
use lib.Count.{ones, ones-le}
use lib.ListN.{length, get_or, set, drop, replicate, length-append, length-drop, length-set, length-replicate}
use lib.Seq.{set_at, drop-cons, get_or-take, get_or-drop, length-take-le}
use borrow.Author.Tests.{eq-eqb, ne_eqb}
use Rattle.names.specs.Pick.{pick}
use Rattle.names.proofs.Tests.{true-or-false}
use Rattle.books.specs.Contents.{Contents}
use Rattle.books.specs.Keeps.{Keeps}
use Rattle.books.specs.Size.{room, size_by as by}
use Rattle.names.specs.Counted.{each}
use Rattle.names.specs.Bits.{bit, bits}
use Rattle.pieces.specs.Rights.{Serves}
use Rattle.pieces.specs.declared.masks.Joins.{Joins}
use Rattle.pieces.proofs.Entries.{bits-lt, bits-has, has-bits}
use Rattle.books.specs.declared.size.Size.{Size}
use Rattle.sizes.specs.Test.{has_size?}
use Rattle.sizes.specs.Card.{sized?, card_row, card, sizes_of, set_bits}
use Rattle.pieces.specs.Firing.{fire_of, painted_of}
use Rattle.sizes.specs.Table.{slot, sizes_by, table_by}
use Rattle.sizes.specs.inner.Entries.{entry, OfTable, RightBefore}
use Rattle.sizes.specs.inner.Rows.{row_of, row_in, rows_of, RowsWrote}
use Rattle.sizes.proofs.CardRight.{card-length}
use Rattle.sizes.proofs.EntriesRight.{entries-length, table-right}
use Rattle.sizes.proofs.Slots.{row_fits}
use Rattle.sizes.proofs.Counting.{sizes-counted, set_bits-append}
use Rattle.sizes.proofs.Listing.{each-length}

-- ── One row, bit by bit ──

bit-worth : (x j : ℕ) → x < 2 → x * 2 ^ j ≡ pick (eqb x 1) (2 ^ j) 0
bit-worth zero j h = zero-mul (2 ^ j)
bit-worth (suc zero) j h = one-mul (2 ^ j)
bit-worth (suc (suc x)) j h = absurd (omega arith)

-- the first j bits of a row
unfoldable pub row_up_to : List ℕ → ℕ → ℕ → ℕ
row_up_to entries a j = bits j (λ i. eqb (bit (get_or entries i 0) a) 1)

pub row_more : (entries : List ℕ) (a j : ℕ) → bit (get_or entries j 0) a < 2 → row_up_to entries a (j + 1) ≡ row_up_to entries a j + bit (get_or entries j 0) a * 2 ^ j
unfolding row_up_to bits
row_more entries a j h = rw (add-one j) (ap (λ (x : ℕ). row_up_to entries a j + x) (sym (bit-worth (bit (get_or entries j 0) a) j h)))

pub row_lt : (entries : List ℕ) (a j : ℕ) → row_up_to entries a j < 2 ^ j
unfolding row_up_to
row_lt entries a j = bits-lt j (λ i. eqb (bit (get_or entries i 0) a) 1)

pub row-ones : (entries : List ℕ) (a : ℕ) → ones (row_of entries a) ≤ length entries
unfolding row_of
row-ones entries a = ones-le (length entries) _ (bits-lt (length entries) (λ j. eqb (bit (get_or entries j 0) a) 1))

-- ── All rows, one after the other ──

module _ (t : List ℕ) (n a : ℕ) where
  pub rows-length : (i : ℕ) → length (rows_of t n a i) ≡ i
  unfolding rows_of
  rows-length i = each-length (λ k. row_of (row_in t n k) a) i

  -- a row has its entries
  pub row-long : (i m : ℕ) → i < m → m * n ≤ length t → length (row_in t n i) ≡ n
  row-long i m h long = length-take-le n _ (omega (arith, length-drop (i * n) t, row_fits i m n h))

  rows_next : (i : ℕ) → rows_of t n a (i + 1) ≡ rows_of t n a i ++ (row_of (row_in t n i) a ∷ [])
  unfolding rows_of each
  rows_next i = rw (add-one i)

  pub written-length : (before : List ℕ) (i : ℕ) → i ≤ length before → length (rows_of t n a i ++ drop i before) ≡ length before
  written-length before i h = simp (length-append, length-drop) (omega (arith, rows-length i))

  -- one more row is written behind the others, and its bits are counted
  pub one_written : (before : List ℕ) (i : ℕ) → i < length before
      → set (rows_of t n a i ++ drop i before) i (row_of (row_in t n i) a) ≡ rows_of t n a (i + 1) ++ drop (i + 1) before
  one_written before i h =
      rw (drop-cons before i 0 h, set_at (rows_of t n a i) _ _ (row_of (row_in t n i) a) i (rows-length i), rows_next i, add-one i, append_assoc)

  pub one-counted : (i : ℕ) → set_bits (rows_of t n a (i + 1)) ≡ set_bits (rows_of t n a i) + ones (row_of (row_in t n i) a)
  unfolding set_bits
  one-counted i = ap set_bits (rows_next i) ∙ set_bits-append (rows_of t n a i) (row_of (row_in t n i) a ∷ []) ∙ omega arith

  pub all-written : (before : List ℕ) (i count : ℕ) (after : List ℕ) → i ≡ n → count ≡ set_bits (rows_of t n a i) → after ≡ rows_of t n a i ++ drop i before
      → RowsWrote (rows_of t n a n) before count after
  all-written before i count after e p q =
      record {
        counted = p ∙ ap (λ (k : ℕ). set_bits (rows_of t n a k)) e;
        written = q ∙ ap₂ (λ (k m : ℕ). rows_of t n a k ++ drop m before) e (e ∙ sym (rows-length n));
      }

-- ── The rows of a table that is right ──

bits-same : (n : ℕ) (f g : ℕ → Bool) → ((j : ℕ) → j < n → f j ≡ g j) → bits n f ≡ bits n g
unfolding bits
bits-same zero f g same = refl
bits-same (suc n) f g same = ap₂ (λ (x : ℕ) (t : Bool). x + pick t (2 ^ n) 0) (bits-same n f g (λ j h. same j (omega arith))) (same n (omega arith))

each_same : (n : ℕ) (f g : ℕ → ℕ) → ((i : ℕ) → i < n → f i ≡ g i) → each n (λ i. f i ∷ []) ≡ each n (λ i. g i ∷ [])
unfolding each
each_same zero f g same = refl
each_same (suc n) f g same = ap₂ (λ (l : List ℕ) (x : ℕ). l ++ (x ∷ [])) (each_same n f g (λ i h. same i (omega arith))) (same n (omega arith))

pub entry-tells : (b : Contents) (s : Size) (a : ℕ) → a < b.motifs → eqb (bit (entry b s) a) 1 ≡ has_size? b a s
unfolding entry
entry-tells b s a h =
    let test : ℕ → Bool = λ x. has_size? b x s in
    ⊎_elim
    (λ (e : has_size? b a s ≡ true). eq-eqb _ 1 (has-bits b.motifs test a h e) ∙ sym e)
    (λ (e : has_size? b a s ≡ false). ne_eqb _ 1 (λ o. true≢false (sym (bits-has b.motifs test a o).1 ∙ e)) ∙ sym e)
    (true-or-false (has_size? b a s))

module _ (b : Contents) (n : ℕ) (t : List ℕ) (right : RightBefore b n (n * n) t) (long : n * n ≤ length t) (fits : b.start < b.motifs) where
  entry_here : (i j : ℕ) → i < n → j < n → get_or t (i * n + j) 0 ≡ entry b (by (suc i) (suc j))
  entry_here i j h l =
      let ei : suc i - 1 ≡ i = omega arith in
      let ej : suc j - 1 ≡ j = omega arith in
      let w : OfTable n (by (suc i) (suc j)) = record { rows_some = omega arith; cols_some = omega arith; cols_few = omega arith } in
      let low : slot n (by (suc i) (suc j)) < n * n = rw (ei, ej) (digits_lt h l) in
      rw (ei, ej) at (right (by (suc i) (suc j)) w low)

  row-right : (i : ℕ) → i < n → row_of (row_in t n i) b.start ≡ card_row b n i
  unfolding row_of card_row sized?
  row-right i h =
      rw (row-long t n b.start i n h long) (bits-same n _ _
      (λ j l. ap (λ (x : ℕ). eqb (bit x b.start) 1) (get_or-take n (drop (i * n) t) j 0 l ∙ get_or-drop (i * n) t j 0 ∙ entry_here i j h l)
      ∙ entry-tells b (by (suc i) (suc j)) b.start fits))

  rows_right : rows_of t n b.start n ≡ card b n
  unfolding rows_of card
  rows_right = each_same n _ _ row-right

-- ── The card by masks that serve the book ──

module _ (b : Contents) (keeps : Keeps b) (masks : List ℕ) (j : Joins) (serves : Serves b.rules masks j) (most : ℕ) (some : 1 ≤ most) (few : most * most ≤ room)
    (before : List ℕ) (count : ℕ) (after : List ℕ) (wrote : RowsWrote (rows_of (table_by masks j most (most * most)) most b.start most) before count after) where
  rows_are : rows_of (table_by masks j most (most * most)) most b.start most ≡ card b most
  unfolding sizes_by
  rows_are =
      let begun = set (replicate room 0) 0 (painted_of masks) in
      let long : most * most ≤ length (table_by masks j most (most * most)) = omega (arith, entries-length (fire_of masks j) most (most * most - 1) begun, length-set {A = ℕ}, length-replicate {A = ℕ}, few) in
      rows_right b most _ (table-right b keeps masks j serves most (most * most) (mul-le-mul some some) few) long keeps.sound.start_fits

  pub card-counted : count ≡ length (sizes_of b most)
  card-counted = wrote.counted ∙ ap set_bits rows_are ∙ sizes-counted b most

  pub card-written : after ≡ card b most ++ drop most before
  card-written =
      wrote.written ∙ ap (λ (l : List ℕ). l ++ drop (length l) before) rows_are ∙ ap (λ (k : ℕ). card b most ++ drop k before) (card-length b most)
