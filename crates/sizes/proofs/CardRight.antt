-- The card that is computed says what a size card must say, and no other list of numbers does: numbers with the same bits are equal.
use Prim.Native.Nat.{ℕ, zero, suc, ◌+◌, ◌-◌, ◌^◌, ◌≤◌, ◌<◌}
use mathlib.Core.Path.{◌≡◌, sym, ◌∙◌}
use mathlib.Core.Bool.{true}
use mathlib.Core.List.{List}
use mathlib.Core.Logic.{◌↔◌}
use native.Mathlib.Decide.{dec_lt}
use native.Mathlib.Nat.{pow-suc, lt_of_lt_of_le}
use native.Mathlib.Omega.{arith}
use lib.ListN.{length, get_or, get_or-eq_default}
use lib.Pow.{pow_mono}
use lib.Seq.{ext_get_or}
use Rattle.books.specs.Contents.{Contents}
use Rattle.names.specs.Bits.{bit}
use Rattle.names.proofs.Bits.{bit-zero, bit_high, same_bit, same_bits}
use Rattle.pieces.proofs.Entries.{bits-lt, bits-has, has-bits}
use Rattle.books.specs.Size.{size_by as by}
use Rattle.sizes.specs.Promise.{Sized, SizeCard}
use Rattle.sizes.specs.Card.{sized?, card_row, card}
use Rattle.sizes.proofs.Listing.{each-length, each_at}
use Rattle.sizes.proofs.SizesOfSheets.{sizes_of-sheets}
use Rattle.sizes.proofs.Testing.{size-decided}

-- The test at a slot of the card.
pub sized-decided : (b : Contents) (i j : ℕ) → (sized? b i j ≡ true) ↔ Sized b (suc i) (suc j)
unfolding sized?
sized-decided b i j =
    let s = by (suc i) (suc j) in
    let t = size-decided b b.start s in
    let u = sizes_of-sheets b b.start (suc i) (suc j) in
    (λ e. u.0 (t.0 e), λ x. t.1 (u.1 x))

module _ (b : Contents) (most : ℕ) where
  pub card-length : length (card b most) ≡ most
  unfolding card
  card-length = each-length (card_row b most) most

  pub card-at : (i : ℕ) → i < most → get_or (card b most) i 0 ≡ card_row b most i
  unfolding card
  card-at i h = each_at (card_row b most) most i h

  pub row_fits : (i : ℕ) → card_row b most i < 2 ^ most
  unfolding card_row
  row_fits i = bits-lt most (sized? b i)

  row-says : (i j : ℕ) → j < most → (bit (card_row b most i) j ≡ 1) ↔ Sized b (suc i) (suc j)
  unfolding card_row
  row-says i j h = (
    λ o. (sized-decided b i j).0 (bits-has most (sized? b i) j o).1,
    λ x. has-bits most (sized? b i) j h ((sized-decided b i j).1 x),
  )

  card-says : (r c : ℕ) → 1 ≤ r → r ≤ most → 1 ≤ c → c ≤ most → (bit (get_or (card b most) (r - 1) 0) (c - 1) ≡ 1) ↔ Sized b r c
  card-says r c hr kr hc kc =
      let er : suc (r - 1) ≡ r = omega arith in
      let ec : suc (c - 1) ≡ c = omega arith in
      rw (card-at (r - 1) (omega arith)) (rw (er, ec) at (row-says (r - 1) (c - 1) (omega arith)))

  card-clear : (r c : ℕ) → most < c → bit (get_or (card b most) (r - 1) 0) (c - 1) ≡ 0
  card-clear r c h = go (dec_lt (r - 1) most)
    where
      go : Dec (r - 1 < most) → bit (get_or (card b most) (r - 1) 0) (c - 1) ≡ 0
      go (yes l) = rw (card-at (r - 1) l) (bit_high (card_row b most (r - 1)) (c - 1) most (row_fits (r - 1)) (omega arith))
      go (no l) = rw (get_or-eq_default (card b most) 0 {n = r - 1} (omega (arith, card-length))) (bit-zero (c - 1))

  pub card-right : SizeCard b most (card b most)
  card-right = record { numbers = card-length; says = card-says; clear = card-clear }

-- ── No other list is a card ──

below_power : (n : ℕ) → n < 2 ^ n
below_power zero = omega arith
below_power (suc n) = omega (arith, below_power n, pow-suc 2 n)

-- a card by places, which count from 0
module _ {b : Contents} {most : ℕ} {x : List ℕ} (p : SizeCard b most x) where
  place-says : (i a : ℕ) → i < most → a < most → (bit (get_or x i 0) a ≡ 1) ↔ Sized b (suc i) (suc a)
  place-says i a h l =
      let ei : suc i - 1 ≡ i = omega arith in
      let ea : suc a - 1 ≡ a = omega arith in
      rw (ei, ea) at (p.says (suc i) (suc a) (omega arith) (omega arith) (omega arith) (omega arith))

  place-clear : (i a : ℕ) → most ≤ a → bit (get_or x i 0) a ≡ 0
  place-clear i a h =
      let ei : suc i - 1 ≡ i = omega arith in
      let ea : suc a - 1 ≡ a = omega arith in
      rw (ei, ea) at (p.clear (suc i) (suc a) (omega arith))

module _ (b : Contents) (most : ℕ) (x y : List ℕ) (p : SizeCard b most x) (q : SizeCard b most y) where
  same_place : (i a : ℕ) → i < most → bit (get_or x i 0) a ≡ bit (get_or y i 0) a
  same_place i a h = go (dec_lt a most)
    where
      go : Dec (a < most) → bit (get_or x i 0) a ≡ bit (get_or y i 0) a
      go (yes l) =
          let u = place-says p i a h l in
          let v = place-says q i a h l in
          same_bit (get_or x i 0) (get_or y i 0) a (λ o. v.1 (u.0 o)) (λ o. u.1 (v.0 o))
      go (no l) = place-clear p i a (omega arith) ∙ sym (place-clear q i a (omega arith))

  same_number : (i : ℕ) → i < most → get_or x i 0 ≡ get_or y i 0
  same_number i h =
      let m = get_or x i 0 in
      let n = get_or y i 0 in
      same_bits (m + n) m n
      (lt_of_lt_of_le (below_power m) (pow_mono (omega arith))) (lt_of_lt_of_le (below_power n) (pow_mono (omega arith)))
      (λ a _. same_place i a h)

  pub card_unique : x ≡ y
  card_unique = ext_get_or 0 x y (p.numbers ∙ sym q.numbers) (λ i h. same_number i (omega (arith, p.numbers)))
