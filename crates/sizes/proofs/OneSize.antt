-- One size is told by its own entry, and that is made of earlier ones alone. So by what is kept of an accepted book a size is had exactly where the card has its bit, and
-- exactly when the family has a sheet of that size.
use Prim.Native.Nat.{ℕ, suc, ◌+◌, ◌-◌, ◌*◌, ◌≤◌, ◌<◌}
use mathlib.Core.Path.{◌≡◌, sym, ap, ◌∙◌}
use mathlib.Core.Bool.{Bool, true}
use mathlib.Core.List.{List}
use mathlib.Core.Logic.{◌↔◌, ⊎_elim}
use native.Mathlib.Nat.{le_refl, mul-le-mul}
use native.Mathlib.Omega.{arith}
use borrow.Author.Tests.{lt-ltb}
use lib.Dec.{eqb, ltb}
use lib.ListN.{get_or, replicate}
use Rattle.names.specs.Bits.{bit, is_set}
use Rattle.names.specs.Bytes.{Bytes}
use Rattle.names.proofs.Tests.{true-or-false, and-on, and-off}
use Rattle.books.specs.Contents.{Contents}
use Rattle.books.specs.Keeps.{Keeps, most_motifs}
use Rattle.books.specs.Press.{greatest_of}
use Rattle.books.specs.Size.{room, Within, within?, size_by as by}
use Rattle.books.proofs.ReadingBooks.{book-accepted}
use Rattle.books.proofs.Area.{within-room}
use Rattle.books.proofs.SizesWithin.{within-exactly}
use Rattle.pieces.specs.Asking.{SplitFrom}
use Rattle.pieces.specs.Rights.{Serves}
use Rattle.pieces.specs.Split.{Split}
use Rattle.pieces.specs.declared.masks.Joins.{Joins}
use Rattle.pieces.proofs.AskingSheets.{kept-start, book-serves}
use Rattle.sizes.specs.Promise.{Sized}
use Rattle.sizes.specs.Card.{sized?, card, has_on}
use Rattle.sizes.specs.Table.{slot, last_by, has_size_by}
use Rattle.sizes.specs.inner.Entries.{OfTable}
use Rattle.sizes.proofs.CardRight.{sized-decided, card-right}
use Rattle.sizes.proofs.CardRows.{entry-tells}
use Rattle.books.specs.Lent.{contents_of}
use Rattle.sizes.proofs.EntriesRight.{table-right}
use Rattle.sizes.proofs.Slots.{row_more}

-- ── By masks that serve a book ──

-- the last of so many rows
last-slot : (m n : ℕ) → 1 ≤ m → 1 ≤ n → slot n (by m n) ≡ m * n - 1
last-slot m n hm hn =
    let e : m - 1 + 1 ≡ m = omega arith in
    omega (arith, row_more (m - 1) n, ap (λ (k : ℕ). k * n) e)

module _ (b : Contents) (keeps : Keeps b) (masks : List ℕ) (j : Joins) (serves : Serves b.rules masks j) (press m n : ℕ) where
  told : Within (greatest_of press) m n → last_by masks j b.start n (m * n) (replicate room 0) ≡ sized? b (m - 1) (n - 1)
  unfolding sized? last_by is_set
  told p =
      let er : suc (m - 1) ≡ m = omega (arith, p) in
      let ec : suc (n - 1) ≡ n = omega (arith, p) in
      let last = last-slot m n p.rows_some p.cols_some in
      let some : 1 ≤ m * n = mul-le-mul p.rows_some p.cols_some in
      let few = within-room press p in
      let w : OfTable n (by m n) = record { rows_some = p.rows_some; cols_some = p.cols_some; cols_few = le_refl n } in
      let right = table-right b keeps masks j serves n (m * n) some few (by m n) w (omega arith) in
      ap (λ (x : ℕ). eqb (bit x b.start) 1) (rw last at right) ∙ entry-tells b (by m n) b.start keeps.sound.start_fits ∙ rw (er, ec)

  pub has_size-told : has_size_by press masks j b.start m n ≡ has_on press b m n
  unfolding has_size_by has_on
  has_size-told =
      let low : b.start < most_motifs = omega (arith, keeps.sound.start_fits, keeps.motifs_few) in
      and-on (ltb b.start most_motifs) _ (lt-ltb b.start most_motifs low)
      ∙ ⊎_elim
      (λ e. and-on (within? (greatest_of press) m n) _ e ∙ told ((within-exactly (greatest_of press) m n).0 e) ∙ sym (and-on (within? (greatest_of press) m n) _ e))
      (λ e. and-off (within? (greatest_of press) m n) _ e ∙ sym (and-off (within? (greatest_of press) m n) _ e))
      (true-or-false (within? (greatest_of press) m n))

-- ── By what is kept of an accepted book: exactly the sizes of the family, and the bits of its card ──

module _ (book : List ℕ) (bytes : Bytes book) (split : Split) (masks : List ℕ) (from : SplitFrom book split masks) (press m n : ℕ) where
  abbrev has : Bool
  has = has_size_by press masks split.joins split.start m n

  pub has_size-holds : has ≡ has_on press (contents_of book) m n
  has_size-holds =
      ap (λ (a : ℕ). has_size_by press masks split.joins a m n) (kept-start book from.before from.is)
      ∙ has_size-told (contents_of book) (book-accepted book bytes from.accepted).keeps masks split.joins (book-serves book split masks from) press m n

  module _ (p : Within (greatest_of press) m n) where
    pub placed-has : has ≡ sized? (contents_of book) (m - 1) (n - 1)
    unfolding has_on
    placed-has = has_size-holds ∙ and-on (within? (greatest_of press) m n) _ ((within-exactly (greatest_of press) m n).1 p)

    pub size-exactly : (has ≡ true) ↔ Sized (contents_of book) m n
    size-exactly =
        let er : suc (m - 1) ≡ m = omega (arith, p) in
        let ec : suc (n - 1) ≡ n = omega (arith, p) in
        rw placed-has (rw (er, ec) at (sized-decided (contents_of book) (m - 1) (n - 1)))

    pub size-bit : (has ≡ true) ↔ (bit (get_or (card (contents_of book) (greatest_of press)) (m - 1) 0) (n - 1) ≡ 1)
    size-bit =
        let says = (card-right (contents_of book) (greatest_of press)).says m n p.rows_some p.rows_few p.cols_some p.cols_few in
        (λ h. says.1 (size-exactly.0 h), λ o. size-exactly.1 (says.0 o))
