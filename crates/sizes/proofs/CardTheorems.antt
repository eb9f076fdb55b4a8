-- What the call leaves, from the bytes of the lent book to the bits in the slice: where it answers 0, the first numbers of the slice are the size card of the
-- book's family, and the number of sizes is that of the bits set in them.
use Prim.Native.Nat.{ℕ, ◌-◌, ◌/◌, ◌%◌, ◌^◌, ◌≤◌}
use mathlib.Core.Path.{◌≡◌, sym, ap, ◌∙◌, subst}
use mathlib.Core.List.{List, ◌++◌}
use mathlib.Core.Logic.{◌↔◌}
use native.Mathlib.Omega.{arith}
use lib.ListN.{length, get_or, take, drop}
use lib.Seq.{get_or-take, take_at, drop_at, length_front, length-take-le}
use Rattle.books.specs.Contents.{Contents}
use Rattle.books.specs.Lent.{contents_of}
use Rattle.books.specs.Press.{greatest_of}
use Rattle.books.proofs.Packing.{apart}
use Rattle.names.specs.Bits.{bit}
use Rattle.sizes.specs.declared.calls.CardAnswer.{CardAnswer}
use Rattle.sizes.specs.Promise.{Sized, SizeCard}
use Rattle.sizes.specs.Card.{card, sizes_of, set_bits}
use Rattle.sizes.specs.Outcome.{Outcome, size_card, Answers, Leaves}
use Rattle.sizes.proofs.Answering.{with_room, card-packs}
use Rattle.sizes.proofs.CardRight.{card-length, card-right}
use Rattle.sizes.proofs.Counting.{sizes-counted}
use Rattle.sizes.proofs.Demand1.{size_card-answered, dv_size_card-answered}
-- The list of sizes, whose length is the count, has exactly the sizes within the press that the family has (`size-listed`), and none twice (`sizes-apart`).
pub use Rattle.sizes.proofs.SizesListed.{size-listed, sizes-apart}

-- a slice that was left with the card of a family, of at most so many rows and columns, and the number of its sizes
pub record CardLeft (most : ℕ) (b : Contents) (slice left : List ℕ) (count : ℕ) : Type 0 where
  pub says : SizeCard b most (take most left)
  pub set_bits : count ≡ set_bits (take most left)
  pub sizes : count ≡ length (sizes_of b most)
  pub beyond : drop most left ≡ drop most slice
  pub as_long : length left ≡ length slice

card-left : (most : ℕ) (b : Contents) (slice left : List ℕ) (count : ℕ) → most ≤ length slice → left ≡ card b most ++ drop most slice
    → count ≡ length (sizes_of b most) → CardLeft most b slice left count
card-left most b slice left count room e n =
    let size = card-length b most in
    let front : take most left ≡ card b most = ap (take most) e ∙ take_at (card b most) (drop most slice) most size in
    record {
      says = subst (SizeCard b most) (sym front) (card-right b most);
      set_bits = n ∙ sym (sizes-counted b most) ∙ ap set_bits (sym front);
      sizes = n;
      beyond = ap (drop most) e ∙ drop_at (card b most) (drop most slice) most size;
      as_long = ap length e ∙ length_front slice (card b most) most (size ∙ sym (length-take-le most slice room));
    }

module _ (press : ℕ) (book slice : List ℕ) where
  pub size_card-holds : (r : CardAnswer) (left : List ℕ) → Answers (size_card press book slice) r left → r.answer.number ≡ 0
      → CardLeft (greatest_of press) (contents_of book) slice left r.sizes
  size_card-holds r left a z =
      let (is, fine, room) = (size_card-answered press book slice r left a).zero.0 z in
      let e = with_room press book slice is fine room in
      card-left (greatest_of press) (contents_of book) slice left r.sizes room (a.leaves ∙ ap (λ (o : Outcome). o.slice) e) (a.counts ∙ ap (λ (o : Outcome). o.sizes) e)

  pub dv_size_card-holds : (r : ℕ) (left : List ℕ) → Leaves (size_card press book slice) r left → r % 2 ^ 8 ≡ 0
      → CardLeft (greatest_of press) (contents_of book) slice left (r / 2 ^ 32)
  dv_size_card-holds r left l z =
      let (is, fine, room) = (dv_size_card-answered press book slice r left l).zero.0 z in
      let e = with_room press book slice is fine room in
      let counted : r / 2 ^ 32 ≡ (size_card press book slice).sizes = ap (λ (n : ℕ). n / 2 ^ 32) l.answers ∙ (apart _ _ (card-packs press book slice)).count_is in
      card-left (greatest_of press) (contents_of book) slice left (r / 2 ^ 32) room (l.leaves ∙ ap (λ (o : Outcome). o.slice) e) (counted ∙ ap (λ (o : Outcome). o.sizes) e)

-- Bit by bit: set exactly when the family has a sheet of that size, in any colours.
pub bit-exactly : (most : ℕ) (b : Contents) (slice left : List ℕ) (count : ℕ) → CardLeft most b slice left count → (r c : ℕ) → 1 ≤ r → r ≤ most → 1 ≤ c → c ≤ most
    → (bit (get_or left (r - 1) 0) (c - 1) ≡ 1) ↔ Sized b r c
bit-exactly most b slice left count l r c hr kr hc kc =
    rw (get_or-take most left (r - 1) 0 (omega arith)) at (l.says.says r c hr kr hc kc)
