-- What a size card must say, over the sheets of the family themselves.
use Rattle.std.specs.Prelude.{ℕ, ◌-◌, ◌≤◌, ◌<◌, ◌≡◌, List, ◌↔◌, length, get_or}
use Rattle.books.specs.Contents.{Contents}
use Rattle.books.specs.Picture.{Picture}
use Rattle.books.specs.Derives.{Derives}
use Rattle.names.specs.Bits.{bit}

-- motif a derives some picture of r rows and c columns, in any colours
pub record SomeSheet (b : Contents) (a r c : ℕ) : Type 0 where
  pub sheet : Picture
  pub derived : Derives b a sheet
  pub rows_are : sheet.rows ≡ r
  pub cols_are : sheet.cols ≡ c

-- the family has a sheet of r rows and c columns: some member of it has that size
abbrev pub Sized : Contents → ℕ → ℕ → Type 0
Sized b r c = SomeSheet b b.start r c

-- The card of a press of at most `most` rows and columns: one number for each number of rows. Bit c - 1 of number r - 1 is set exactly when the
-- family has a sheet of r rows and c columns, and no bit beyond the press is set.
pub record SizeCard (b : Contents) (most : ℕ) (card : List ℕ) : Type 0 where
  pub numbers : length card ≡ most
  pub says : (r c : ℕ) → 1 ≤ r → r ≤ most → 1 ≤ c → c ≤ most → (bit (get_or card (r - 1) 0) (c - 1) ≡ 1) ↔ Sized b r c
  pub clear : (r c : ℕ) → most < c → bit (get_or card (r - 1) 0) (c - 1) ≡ 0
