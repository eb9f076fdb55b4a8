-- The house book of docs/RULES.md and books that differ from it in one byte, read by computing.
use Prim.Native.Nat.{ℕ}
use mathlib.Core.Path.{◌≡◌, refl}
use mathlib.Core.List.{List, [], ◌∷◌, ◌++◌}
use lib.ListN.{length}
use Rattle.names.specs.Pick.{and_then, or_else, fault}
use Rattle.names.specs.Number.{last_group, longer_at, number_at, number_in, number_below, spell_number}
use Rattle.names.specs.Name.{least_byte, name_of, same_name, listed}
use Rattle.names.specs.Colours.{find_name, colour_at, colours_of}
use Rattle.books.specs.House.{two_colours, house_rules, house_book, house_contents}
use Rattle.books.specs.Equal.{same_rule, stands}
use Rattle.books.specs.Lent.{contents_of}
use Rattle.books.specs.Rules.{colour_number_at, join_at, body_at, rule_at, repeats, rules_at}
use Rattle.books.specs.Book.{figures_at, ruled_at, figured_at, book_by, book_of, untidy_of}
use Rattle.books.specs.SpellBook.{spell_book}

-- its two colours, figures, and rules one after the other
abbrev book : List ℕ → List ℕ → List ℕ
book figures rules = two_colours ++ (figures ++ rules)

-- its last rule stands twice
abbrev twice : List ℕ
twice = book (3 ∷ 0 ∷ 5 ∷ []) (house_rules ++ (2 ∷ 0 ∷ 1 ∷ []))

pub record Books : Type 0 where
  pub bytes_34 : length house_book ≡ 34
  pub fine : (book_of house_book).fault ≡ fault 0 0
  pub contents : contents_of house_book ≡ house_contents
  pub spelled : spell_book house_contents ≡ house_book
  pub empty : (book_of []).fault ≡ fault 1 0
  pub no_motif : (book_of (book (0 ∷ 0 ∷ 4 ∷ []) house_rules)).fault ≡ fault 3 17
  pub motifs_33 : (book_of (book (33 ∷ 0 ∷ 4 ∷ []) house_rules)).fault ≡ fault 3 17
  pub start_3 : (book_of (book (3 ∷ 3 ∷ 4 ∷ []) house_rules)).fault ≡ fault 6 18
  pub rules_201 : (book_of (book (3 ∷ 0 ∷ 201 ∷ 1 ∷ []) house_rules)).fault ≡ fault 3 19
  pub rules_5 : (book_of (book (3 ∷ 0 ∷ 5 ∷ []) house_rules)).fault ≡ fault 1 34
  pub rules_3 : (book_of (book (3 ∷ 0 ∷ 3 ∷ []) house_rules)).fault ≡ fault 8 31
  pub head_3 : (book_of (book (3 ∷ 0 ∷ 1 ∷ []) (3 ∷ 0 ∷ 0 ∷ []))).fault ≡ fault 6 20
  pub kind_3 : (book_of (book (3 ∷ 0 ∷ 1 ∷ []) (0 ∷ 3 ∷ 0 ∷ 0 ∷ []))).fault ≡ fault 7 21
  pub colour_2 : (book_of (book (3 ∷ 0 ∷ 1 ∷ []) (0 ∷ 0 ∷ 2 ∷ []))).fault ≡ fault 6 22
  pub lower_3 : (book_of (book (3 ∷ 0 ∷ 1 ∷ []) (0 ∷ 2 ∷ 0 ∷ 3 ∷ []))).fault ≡ fault 6 23
  pub last_twice : (book_of twice).fault ≡ fault 18 34
  pub last_twice_untidy : (untidy_of twice).fault ≡ fault 0 0
  pub first_again : (book_of (book (3 ∷ 0 ∷ 5 ∷ []) (house_rules ++ (0 ∷ 1 ∷ 0 ∷ 0 ∷ [])))).fault ≡ fault 18 34
  pub other_head : (book_of (book (3 ∷ 0 ∷ 5 ∷ []) (house_rules ++ (1 ∷ 0 ∷ 1 ∷ [])))).fault ≡ fault 0 0

pub books : Books
unfolding
    spell_number book_by figured_at figures_at ruled_at rules_at rule_at body_at join_at colour_number_at
    number_in number_below number_at longer_at last_group colours_of colour_at name_of least_byte find_name listed same_name
    repeats and_then stands or_else same_rule
books =
    record {
      bytes_34 = refl;
      fine = refl;
      contents = refl;
      spelled = refl;
      empty = refl;
      no_motif = refl;
      motifs_33 = refl;
      start_3 = refl;
      rules_201 = refl;
      rules_5 = refl;
      rules_3 = refl;
      head_3 = refl;
      kind_3 = refl;
      colour_2 = refl;
      lower_3 = refl;
      last_twice = refl;
      last_twice_untidy = refl;
      first_again = refl;
      other_head = refl;
    }
