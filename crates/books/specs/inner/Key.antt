-- The key from the colours of a sheet to those of a book, and the cells that it numbers.
use Rattle.std.specs.Prelude.{ℕ, ◌≤◌, ◌<◌, ◌≡◌, List, map, ◌++◌, length, get_or, take, drop}
use Rattle.names.specs.Spelling.{most_colours}
use Rattle.names.specs.declared.colours.Colours.{Colours}
use Rattle.books.specs.Size.{room}
use Rattle.books.specs.Numbering.{number_of}

-- the first n colours of the sheet have their numbers in the book
pub record Key (book : List ℕ) (c : Colours) (sheet : List ℕ) (d : Colours) (n : ℕ) (key : List ℕ) : Type 0 where
  pub size : length key ≡ most_colours
  pub numbers : (i : ℕ) → i < n → get_or key i 0 ≡ number_of book c sheet d i

-- the first n cells are numbers of so many colours
pub record CellsFit (colours n : ℕ) (cells : List ℕ) : Type 0 where
  pub few : n ≤ room
  pub all : n ≤ length cells
  pub fit : (i : ℕ) → i < n → get_or cells i 0 < colours

-- the first n cells get new numbers
abbrev pub numbered : (ℕ → ℕ) → ℕ → List ℕ → List ℕ
numbered f n cells = map f (take n cells) ++ drop n cells
