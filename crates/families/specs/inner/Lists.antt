-- The colours of a lent book.
use Rattle.std.specs.Prelude.{ℕ, ◌+◌, ◌≤◌, ◌<◌, List, length, get_or}
use Rattle.names.specs.Spelling.{most_colours, Distinct}
use Rattle.names.specs.Colours.{names_in}
use Rattle.names.specs.declared.colours.Colours.{Colours}

-- as reading leaves them: parts of the book, with distinct names, and not too many
pub record Lists (s : List ℕ) (c : Colours) : Type 0 where
  pub few : c.count ≤ most_colours
  pub inside : (i : ℕ) → i < c.count → get_or c.starts i 0 + get_or c.lens i 0 ≤ length s
  pub distinct : Distinct (names_in s c)
