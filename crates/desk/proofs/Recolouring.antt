-- A press, a book and a sheet: where there is no such press, or an input has a fault, or the sheet has not got the cell or the colour, or the slice is too short, that is the answer; and else the
-- sheet and the slice are left with the cell recoloured.
use Prim.Native.Nat.{ℕ, ◌≤◌, ◌<◌}
use mathlib.Core.Path.{◌≡◌, refl, ◌∙◌}
use mathlib.Core.Bool.{true, false}
use mathlib.Core.List.{List}
use mathlib.Core.Logic.{◌⊎◌, inl, inr}
use native.Mathlib.Omega.{arith}
use borrow.Author.Tests.{ltb-true, ltb-false, lt-ltb}
use lib.Dec.{ltb}
use lib.ListN.{length}
use Rattle.names.specs.Pick.{pick}
use Rattle.names.proofs.Tests.{true-or-false, and_both, and-make}
use Rattle.books.specs.Answer.{plain, blaming}
use Rattle.books.specs.Book.{book_of}
use Rattle.books.specs.Contents.{Contents}
use Rattle.books.specs.Lent.{contents_of, picture_of}
use Rattle.books.specs.Picture.{Picture}
use Rattle.books.specs.Press.{IsPress}
use Rattle.books.specs.Sheet.{sheet_of, sheet_figures}
use Rattle.books.specs.Size.{Within}
use Rattle.books.specs.declared.answer.Answer.{Answer}
use Rattle.books.specs.SheetRead.{SheetFigures}
use Rattle.books.specs.declared.size.Size.{Size}
use Rattle.books.proofs.LentEnds.{Refusal, in_sheet, refused-so, both-go-on}
use Rattle.books.proofs.Presses.{greatest-few}
use Rattle.books.proofs.ReadingSheets.{sheet-lies}
use Rattle.books.proofs.SizesWithin.{within_more}
use Rattle.pieces.specs.Derivation.{entries_needed}
use Rattle.pieces.specs.Most.{most}
use Rattle.desk.specs.Recolour.{has?, sheet_with, Recolouring, untouched, recast, recolouring}
use Rattle.desk.specs.inner.ForCell.{lacking_for}

-- ── What the sheet has ──

-- the sheet has the cell and the colour
pub record Has (s : Size) (colours row column colour : ℕ) : Type 0 where
  pub row_on : row < s.rows
  pub column_on : column < s.cols
  pub colour_in : colour < colours

pub has-it : (s : Size) (colours row column colour : ℕ) → has? s colours row column colour ≡ true → Has s colours row column colour
unfolding has?
has-it s colours row column colour e =
    let (x, u) = and_both _ _ e in
    let (y, z) = and_both _ _ u in
    record { row_on = ltb-true _ _ x; column_on = ltb-true _ _ y; colour_in = ltb-true _ _ z }

pub it-has : (s : Size) (colours row column colour : ℕ) → Has s colours row column colour → has? s colours row column colour ≡ true
unfolding has?
it-has s colours row column colour h = and-make _ _ (lt-ltb _ _ h.row_on) (and-make _ _ (lt-ltb _ _ h.column_on) (lt-ltb _ _ h.colour_in))

-- ── The order of the answers ──

module _ (press : ℕ) (book sheet entries : List ℕ) (row column colour : ℕ) where
  abbrev size : Size
  size = (sheet_of press sheet).sheet.size

  abbrev colours : ℕ
  colours = (sheet_of press sheet).sheet.colours.count

  abbrev lack : ℕ
  lack = lacking_for size colours row column colour (length entries)

  abbrev refuse : Answer → Recolouring
  refuse a = untouched a sheet entries

  abbrev go : Contents → Picture → Recolouring
  go b p =
      pick (has? size colours row column colour)
      (pick (ltb (length entries) (entries_needed p)) (refuse (plain 9)) (recast press b (sheet_with press sheet row column colour) row column entries))
      (refuse (plain 19))

  pub refused-first : {a : Answer} → Refusal press book sheet a → recolouring press book sheet entries row column colour ≡ untouched a sheet entries
  unfolding recolouring
  refused-first r = refused-so press refuse book sheet go r

  module _ (book_fine : (book_of book).fault.number ≡ 0) where
    module _ (sheet_fine : (sheet_of press sheet).fault.number ≡ 0) where
      then-cell : recolouring press book sheet entries row column colour ≡ go (contents_of book) (picture_of press sheet)
      unfolding recolouring
      then-cell = both-go-on press refuse book sheet go (record { book_fine = book_fine; sheet_fine = sheet_fine })

      pub cell-fourth : has? size colours row column colour ≡ false → recolouring press book sheet entries row column colour ≡ untouched (plain 19) sheet entries
      cell-fourth e = then-cell ∙ simp e

      module _ (has : has? size colours row column colour ≡ true) where
        pub room-fifth : ltb (length entries) (entries_needed (picture_of press sheet)) ≡ true → recolouring press book sheet entries row column colour ≡ untouched (plain 9) sheet entries
        room-fifth e = then-cell ∙ simp (has, e)

        pub recast-last : ltb (length entries) (entries_needed (picture_of press sheet)) ≡ false
            → recolouring press book sheet entries row column colour ≡ recast press (contents_of book) (sheet_with press sheet row column colour) row column entries
        recast-last e = then-cell ∙ simp (has, e)

      -- what lacks is answered, ...
      pub lack-told : (lack ≡ 0 → ⊥) → recolouring press book sheet entries row column colour ≡ untouched (plain lack) sheet entries
      unfolding lacking_for
      lack-told some = go (true-or-false (has? size colours row column colour)) (true-or-false (ltb (length entries) (entries_needed (picture_of press sheet))))
        where
          go : (has? size colours row column colour ≡ true) ⊎ (has? size colours row column colour ≡ false)
              → (ltb (length entries) (entries_needed (picture_of press sheet)) ≡ true) ⊎ (ltb (length entries) (entries_needed (picture_of press sheet)) ≡ false)
              → recolouring press book sheet entries row column colour ≡ untouched (plain lack) sheet entries
          go (inr h) e = rw h (cell-fourth h)
          go (inl h) (inl e) = rw (h, e) (room-fifth h e)
          go (inl h) (inr e) = absurd (some (rw (h, e) refl))

      -- ... and where nothing does, the sheet has the cell, and the slice is long enough
      pub nothing-lacks : lack ≡ 0 → Has size colours row column colour × (entries_needed (picture_of press sheet) ≤ length entries)
      unfolding lacking_for
      nothing-lacks none = go (true-or-false (has? size colours row column colour)) (true-or-false (ltb (length entries) (entries_needed (picture_of press sheet))))
        where
          go : (has? size colours row column colour ≡ true) ⊎ (has? size colours row column colour ≡ false)
              → (ltb (length entries) (entries_needed (picture_of press sheet)) ≡ true) ⊎ (ltb (length entries) (entries_needed (picture_of press sheet)) ≡ false)
              → Has size colours row column colour × (entries_needed (picture_of press sheet) ≤ length entries)
          go (inr h) e = let z : ◌≡◌ {A = ℕ} 19 0 = rw h at none in absurd (omega arith)
          go (inl h) (inl e) = let z : ◌≡◌ {A = ℕ} 9 0 = rw (h, e) at none in absurd (omega arith)
          go (inl h) (inr e) = (has-it size colours row column colour h, ltb-false _ _ e)

-- ── The same by the figures that were read ──

module _ (press : ℕ) (sheet : List ℕ) {g : SheetFigures} (is : g ≡ sheet_figures (sheet_of press sheet)) where
  pub read-within : g.fault.number ≡ 0 → Within most g.size.rows g.size.cols
  read-within = rw is (λ fine. within_more (greatest-few press) (sheet-lies press sheet fine).within)

module _ (press : ℕ) (book sheet entries : List ℕ) (row column colour : ℕ) {g : SheetFigures} (is : g ≡ sheet_figures (sheet_of press sheet)) (book_fine : (book_of book).fault.number ≡ 0) where
  pub read-blamed : IsPress press → (g.fault.number ≡ 0 → ⊥) → recolouring press book sheet entries row column colour ≡ untouched (blaming 2 g.fault) sheet entries
  read-blamed on = rw is (λ n. refused-first press book sheet entries row column colour (in_sheet on book_fine n))

  pub read-lacks : g.fault.number ≡ 0 → (lacking_for g.size g.colours row column colour (length entries) ≡ 0 → ⊥)
      → recolouring press book sheet entries row column colour ≡ untouched (plain (lacking_for g.size g.colours row column colour (length entries))) sheet entries
  read-lacks = rw is (λ fine some. lack-told press book sheet entries row column colour book_fine fine some)
