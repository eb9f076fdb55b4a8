-- The contents of a book to be written, over the two lent books that its names are parts of.
use Rattle.std.specs.Prelude.{ℕ, ◌≤◌, ◌≡◌, List, ◌++◌, Bool, false, ltb, leb, length, take}
use Rattle.names.specs.Pick.{pick}
use Rattle.names.specs.Put.{put}
use Rattle.names.specs.Name.{Name}
use Rattle.names.specs.Colours.{names_in}
use Rattle.names.specs.Spelling.{most_colours}
use Rattle.names.specs.declared.colours.Colours.{Colours}
use Rattle.books.specs.Contents.{Contents}
use Rattle.books.specs.SpellBook.{spell_book}
use Rattle.books.specs.Keeps.{most_rules}
use Rattle.drafts.specs.declared.draft.Draft.{Draft}
use Rattle.drafts.specs.Written.{Written}

-- the names of two lists, one after the other
abbrev pub both_names : List ℕ → Colours → List ℕ → Colours → List Name
both_names first c second more = names_in first c ++ names_in second more

abbrev pub draft_in : List ℕ → List ℕ → Draft → Contents
draft_in first second d =
    record {
      colours = both_names first d.family.colours second d.more;
      motifs = d.family.motifs;
      start = d.family.start;
      rules = take d.family.count d.family.rules;
    }

-- the counts are within the arrays
pub record DraftFits (d : Draft) : Type 0 where
  pub colours_few : d.family.colours.count ≤ most_colours
  pub more_few : d.more.count ≤ most_colours
  pub rules_few : d.family.count ≤ most_rules
  pub rules_all : length d.family.rules ≡ most_rules

-- the test for that, of the counts of colours, of more colours and of rules
unfoldable pub counts_fit? : ℕ → ℕ → ℕ → Bool
counts_fit? own more rules = pick (ltb most_colours own) false (pick (ltb most_colours more) false (leb rules most_rules))

abbrev pub fits? : Draft → Bool
fits? d = counts_fit? d.family.colours.count d.more.count d.family.count

-- 13 and nothing where the slice is shorter than the spelling
abbrev pub written_book : Contents → List ℕ → Written
written_book b out =
    pick (leb (length (spell_book b)) (length out)) (record { number = 0; count = length (spell_book b) }) (record { number = 13; count = 0 })

pub record WroteBook (b : Contents) (before : List ℕ) (r : Written) (after : List ℕ) : Type 0 where
  pub answers : r ≡ written_book b before
  pub leaves : after ≡ put before 0 (spell_book b)

-- ... and 12 and nothing where a count is past its array
pub record WroteDraft (first second : List ℕ) (d : Draft) (before : List ℕ) (r : Written) (after : List ℕ) : Type 0 where
  pub answers : r ≡ pick (fits? d) (written_book (draft_in first second d) before) (record { number = 12; count = 0 })
  pub leaves : after ≡ pick (fits? d) (put before 0 (spell_book (draft_in first second d))) before
