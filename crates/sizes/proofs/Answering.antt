-- The ways down the call: a press that there is not comes first, then a refused book, then a slice that is too short, and else the card is written. Every answer packs, since places are bounded
-- and a press has few sizes.
use Prim.Native.Nat.{ℕ, zero, suc, ◌*◌, ◌≤◌, ◌<◌}
use mathlib.Core.Path.{◌≡◌, refl, ◌∙◌}
use mathlib.Core.List.{List, [], ◌∷◌}
use mathlib.Core.Bool.{Bool, true, false}
use native.Mathlib.Nat.{suc-mul, mul-one}
use native.Mathlib.Omega.{arith}
use borrow.Author.Tests.{eq-eqb, ne_eqb, lt-ltb, le-ltb}
use lib.Dec.{eqb, ltb}
use lib.ListN.{length, length-append}
use Rattle.names.specs.Pick.{pick}
use Rattle.names.proofs.Picking.{pick_ind}
use Rattle.names.specs.Bytes.{Bytes}
use Rattle.books.specs.Answer.{plain, blaming, Packs}
use Rattle.books.specs.Book.{book_of}
use Rattle.books.specs.Contents.{Contents}
use Rattle.books.specs.Lent.{contents_of, lent_book}
use Rattle.books.specs.Press.{greatest_of, IsPress}
use Rattle.books.specs.Size.{size_by as by}
use Rattle.books.specs.declared.answer.Answer.{Answer}
use Rattle.books.proofs.LentEnds.{press-ends, no-press-first, on_press_lem}
use Rattle.books.proofs.Presses.{greatest-some}
use Rattle.books.proofs.Area.{room_enough}
use Rattle.books.proofs.Packing.{plain-packs, book-placed}
use Rattle.books.proofs.ReadingBooks.{book-lies, book-accepted}
use Rattle.names.specs.Counted.{each}
use Rattle.pieces.specs.Asking.{kept_with, split_book}
use Rattle.pieces.specs.Masks.{all_masks}
use Rattle.pieces.specs.Split.{Split}
use Rattle.pieces.proofs.AskingSheets.{kept-fault, kept-start, kept_from, book-serves}
use Rattle.sizes.specs.Card.{sized?, sizes_of}
use Rattle.sizes.specs.Outcome.{Outcome, refused, carded, roomed, size_card, Answers}
use Rattle.sizes.specs.Table.{table_by}
use Rattle.sizes.specs.inner.Rows.{rows_of, RowsWrote}
use Rattle.sizes.proofs.CardRows.{card-counted, card-written}

-- ── The ways down ──

module _ (press : ℕ) (book slice : List ℕ) where
  abbrev refuse : Answer → Outcome
  refuse a = refused a slice

  abbrev go : Outcome
  go = lent_book 1 book refuse (λ b. roomed press b slice)

  pub press-first : (IsPress press → ⊥) → size_card press book slice ≡ refused (plain 21) slice
  unfolding size_card
  press-first n = no-press-first press refuse go n

  pub book-second : IsPress press → ((book_of book).fault.number ≡ 0 → ⊥) → size_card press book slice ≡ refused (blaming 1 (book_of book).fault) slice
  unfolding size_card
  book-second is n = on_press_lem press refuse go is ∙ simp (ne_eqb (book_of book).fault.number 0 n)

  module _ (is : IsPress press) (fine : (book_of book).fault.number ≡ 0) where
    then-room : size_card press book slice ≡ roomed press (contents_of book) slice
    unfolding size_card
    then-room = on_press_lem press refuse go is ∙ simp (eq-eqb (book_of book).fault.number 0 fine)

    pub no_room : length slice < greatest_of press → size_card press book slice ≡ refused (plain 13) slice
    unfolding roomed
    no_room h = then-room ∙ simp (lt-ltb (length slice) (greatest_of press) h)

    pub with_room : greatest_of press ≤ length slice → size_card press book slice ≡ carded press (contents_of book) slice
    unfolding roomed
    with_room h = then-room ∙ simp (le-ltb (length slice) (greatest_of press) h)

-- ── As the call goes them, with what was split ──

module _ (book before : List ℕ) {split : Split} {masks : List ℕ} (is : kept_with split masks ≡ split_book book before) where
  accepted : split.fault.number ≡ 0 → (book_of book).fault.number ≡ 0
  accepted = rw (kept-fault book before is) (λ fine. fine)

  pub start-low : split.fault.number ≡ 0 → split.start < 32
  start-low fine = let l = book-lies book (accepted fine) in omega (arith, kept-start book before is, l.start_fits, l.motifs_few)

  module _ (press : ℕ) (slice : List ℕ) (a : Answer) where
    pub refuses : IsPress press → (split.fault.number ≡ 0 → ⊥) → a ≡ blaming 1 split.fault → Answers (size_card press book slice) (record { answer = a; sizes = 0 }) slice
    refuses there = rw (kept-fault book before is) (λ bad e. rw (book-second press book slice there bad) (record { answers = e; counts = refl; leaves = refl }))

    pub lacks : {most : ℕ} → most ≡ greatest_of press → IsPress press → split.fault.number ≡ 0 → length slice < most → a ≡ plain 13
        → Answers (size_card press book slice) (record { answer = a; sizes = 0 }) slice
    lacks m there fine short e = rw (no_room press book slice there (accepted fine) (rw m at short)) (record { answers = e; counts = refl; leaves = refl })

    pub writes : {most : ℕ} → most ≡ greatest_of press → IsPress press → length before ≡ all_masks → Bytes book → split.fault.number ≡ 0 → most ≤ length slice
        → a ≡ plain 0 → (n : ℕ) (after : List ℕ)
        → RowsWrote (rows_of (table_by masks split.joins most (most * most)) most split.start most) slice n after
        → Answers (size_card press book slice) (record { answer = a; sizes = n }) after
    writes m there long bytes fine roomy e n after wrote =
        let most = greatest_of press in
        let b = contents_of book in
        let keeps = (book-accepted book bytes (accepted fine)).keeps in
        let serves = book-serves book split masks (kept_from book before is fine long) in
        let rows = rw (m, kept-start book before is) at wrote in
        let some = (greatest-some press).0 there in
        let few = room_enough press in
        rw (with_room press book slice there (accepted fine) (rw m at roomy))
        (record {
          answers = e;
          counts = card-counted b keeps masks split.joins serves most some few slice n after rows;
          leaves = card-written b keeps masks split.joins serves most some few slice n after rows;
        })

-- ── Every answer packs ──

each-few : {A : Type 0} (n m : ℕ) (f : ℕ → List A) → ((i : ℕ) → length (f i) ≤ m) → length (each n f) ≤ n * m
unfolding each
each-few zero m f h = omega arith
each-few (suc n) m f h = omega (arith, length-append (each n f) (f n), each-few n m f h, h n, suc-mul n m)

one-few : {A : Type 0} (t : Bool) (x : A) → length (pick t (x ∷ []) []) ≤ 1
one-few true x = omega arith
one-few false x = omega arith

pub sizes-few : (b : Contents) (most : ℕ) → length (sizes_of b most) ≤ most * most
unfolding sizes_of
sizes-few b most =
    each-few most most _ (λ i. omega (arith, each-few most 1 (λ j. pick (sized? b i j) (by (suc i) (suc j) ∷ []) []) (λ j. one-few (sized? b i j) (by (suc i) (suc j))), mul-one most))

abbrev Packed : Outcome → Type 0
Packed o = Packs o.answer o.sizes

roomed-packs : (press : ℕ) (b : Contents) (slice : List ℕ) → Packed (roomed press b slice)
unfolding roomed
roomed-packs press b slice =
    pick_ind Packed (ltb (length slice) (greatest_of press)) (refused (plain 13) slice) (carded press b slice)
    (λ _. plain-packs 13 0 (omega arith) (omega arith))
    (λ _. plain-packs 0 (length (sizes_of b (greatest_of press))) (omega arith) (omega (arith, sizes-few b (greatest_of press), room_enough press)))

pub card-packs : (press : ℕ) (book slice : List ℕ) → Packed (size_card press book slice)
unfolding size_card
card-packs press book slice =
    press-ends Packed (λ a. refused a slice) press _
    (λ _. plain-packs 21 0 (omega arith) (omega arith))
    (λ _. pick_ind Packed (eqb (book_of book).fault.number 0) _ (refused (blaming 1 (book_of book).fault) slice)
    (λ _. roomed-packs press _ slice)
    (λ _. (book-placed book 1 (omega arith)).packs))
