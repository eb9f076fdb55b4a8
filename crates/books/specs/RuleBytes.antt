-- Rules in rows of four bytes: head and kind, then a colour, or two motifs, as a book spells them.
use Rattle.std.specs.Prelude.{ℕ, ◌-◌, ◌≡◌, List, ◌++◌, map, eqb, get_or, take, replicate}
use Rattle.names.specs.Pick.{pick}
use Rattle.books.specs.Book.{book_of}
use Rattle.books.specs.Equal.{four_of}
use Rattle.books.specs.Keeps.{most_rules}
use Rattle.books.specs.Picture.{joins}
use Rattle.books.specs.BookRead.{BookRead, BookFigures}
use Rattle.books.specs.declared.rule.Rule.{Rule}
use Rattle.books.specs.declared.rule.Body.TheVariants.{Colour}
use Rattle.books.specs.declared.rule.Dir.{Dir}
use Rattle.books.specs.declared.rule.Dir.TheVariants.{Across as across, Down as down}

-- the rows of the first rules, and rows of zeros behind them: as many in all as a family has room for
unfoldable pub lent_rules : List Rule → ℕ → List (List ℕ)
lent_rules rules count = map four_of (take count rules) ++ replicate (most_rules - count) (replicate 4 0)

-- what is told of a book whose rules are in rows, ...
abbrev pub book_figures : BookRead → BookFigures
book_figures b = record { fault = b.fault; colours = b.family.colours; start = b.family.start; rules = b.family.count }

-- ... and the rows
pub record BookInto (book : List ℕ) (r : BookFigures) (rows : List (List ℕ)) : Type 0 where
  pub figures : r ≡ book_figures (book_of book)
  pub lent : rows ≡ lent_rules (book_of book).family.rules (book_of book).family.count

-- the direction of a join, by its kind
unfoldable pub kind_dir : ℕ → Dir
kind_dir kind = pick (eqb kind 1) across down

-- the rule that stands in a row, and the rules that stand in rows
unfoldable pub rule_in : List ℕ → Rule
rule_in x =
    record {
      head = get_or x 0 0;
      body = pick (eqb (get_or x 1 0) 0) (Colour (get_or x 2 0)) (joins (kind_dir (get_or x 1 0)) (get_or x 2 0) (get_or x 3 0));
    }

abbrev pub rules_in : List (List ℕ) → List Rule
rules_in rows = map rule_in rows
