-- Cases P1 to P12 of docs/RULES.md, from the bytes: each is what the definition that a call's contract cites computes to, so that the calls
-- can leave nothing else.
use Prim.Native.Nat.{ℕ}
use mathlib.Core.Path.{◌≡◌, refl}
use mathlib.Core.List.{List, [], ◌∷◌}
use lib.ListN.{length, replicate}
use Rattle.names.specs.Pick.{fault, and_then, or_else}
use Rattle.names.specs.Number.{last_group, longer_at, number_at, number_in, number_below, spell_number}
use Rattle.names.specs.Name.{least_byte, name_of, same_name, listed}
use Rattle.names.specs.Colours.{find_name, colour_at, colours_of}
use Rattle.names.specs.Put.{put}
use Rattle.names.specs.Read.{Value, Refused}
use Rattle.books.specs.Lent.{contents_of}
use Rattle.books.specs.Answer.{plain}
use Rattle.books.specs.Equal.{same_rule, stands, firsts, without_copies}
use Rattle.books.specs.Rules.{colour_number_at, join_at, body_at, rule_at, repeats, rules_at}
use Rattle.books.specs.Book.{figures_at, ruled_at, figured_at, book_by}
use Rattle.books.specs.Press.{greatest_of}
use Rattle.books.specs.Size.{size_at}
use Rattle.books.specs.Cells.{no_cells, cells_at}
use Rattle.books.specs.Sheet.{filled_at, sheet_of}
use Rattle.books.specs.Search.{any_cut, fits_body, any_rule, gives_in}
use Rattle.books.specs.Decide.{called?, derives?}
use Rattle.pieces.specs.Pieces.{pieces}
use Rattle.pieces.specs.Table.{entry, table}
use Rattle.names.specs.Bits.{bits}
use Rattle.pieces.specs.Choice.{works, cut_of, covers, fits, takes, taken, lowest, chosen, choose}
use Rattle.names.specs.Counted.{least, each}
use Rattle.pieces.specs.Tree.{tree_within, tree_of}
use Rattle.pieces.specs.Derivation.{judged, roomed, derivation}
use Rattle.families.specs.Merged.{without, merged}
use Rattle.families.specs.Combine.{copies, joined, repeated, either_of, beside, run, transposed}
use Rattle.families.specs.Limits.{counts_within?, within_limits?}
use Rattle.drafts.specs.Outcome.{written, lent_by}
use Rattle.families.specs.Outcome.{made}
use Rattle.books.specs.House.{house_book, house_contents}
use Rattle.house.specs.Bytes.{sheet_a, sheet_a_reordered, sheet_a_slate, one_cell, one_column, one_row, transposed_book, beside_book, run_book, either_of_book}
use Rattle.house.specs.Asked.{asked, changed, with_itself, wrote}

-- the derivation of sheet A, rule and cut of each node
abbrev pub tree_of_sheet_a : List ℕ
tree_of_sheet_a = 0 ∷ 1 ∷ 1 ∷ 1 ∷ 2 ∷ 0 ∷ 3 ∷ 0 ∷ 0 ∷ 1 ∷ 1 ∷ 1 ∷ 2 ∷ 0 ∷ 3 ∷ 0 ∷ 1 ∷ 1 ∷ 2 ∷ 0 ∷ 3 ∷ 0 ∷ []

pub record Cases : Type 0 where
  pub contents : contents_of house_book ≡ house_contents
  pub p1 : (asked house_book sheet_a).answer ≡ plain 0
  pub p1_tree : (asked house_book sheet_a).numbers ≡ tree_of_sheet_a
  pub p2 : (asked house_book sheet_a).entries ≡ 2 ∷ 2 ∷ 2 ∷ 4 ∷ 4 ∷ 4 ∷ 0 ∷ 0 ∷ 0 ∷ 0 ∷ 0 ∷ 0 ∷ 1 ∷ 1 ∷ 1 ∷ 1 ∷ 1 ∷ 1 ∷ []
  pub p3 : (asked house_book sheet_a_reordered).answer ≡ plain 0
  pub p3_tree : (asked house_book sheet_a_reordered).numbers ≡ tree_of_sheet_a
  pub p4 : (asked house_book sheet_a_slate).answer ≡ plain 11
  pub p5 : (asked house_book one_cell).answer ≡ plain 11
  pub p6 : (asked house_book one_column).answer ≡ plain 0
  pub p6_tree : (asked house_book one_column).numbers ≡ 1 ∷ 1 ∷ 2 ∷ 0 ∷ 3 ∷ 0 ∷ replicate 16 7
  pub p7 : number_at (128 ∷ 0 ∷ []) 0 ≡ Refused (fault 2 0)
  pub p8 : number_at (200 ∷ 1 ∷ []) 0 ≡ Value 200 2
  pub p9_book : changed transposed house_book ≡ wrote transposed_book
  pub p9 : (asked transposed_book one_row).answer ≡ plain 0
  pub p9_not : (asked transposed_book sheet_a).answer ≡ plain 11
  pub p10_book : with_itself beside house_book ≡ wrote beside_book
  pub p10_motifs : (contents_of beside_book).motifs ≡ 7
  pub p10_rules : length (contents_of beside_book).rules ≡ 9
  pub p10_bytes : (with_itself beside house_book).count ≡ 52
  pub p10_not : (asked beside_book one_column).answer ≡ plain 11
  pub p11_book : changed run house_book ≡ wrote run_book
  pub p11_motifs : (contents_of run_book).motifs ≡ 4
  pub p11_rules : length (contents_of run_book).rules ≡ 7
  pub p12_book : with_itself either_of house_book ≡ wrote either_of_book
  pub p12_motifs : (contents_of either_of_book).motifs ≡ 7
  pub p12_rules : length (contents_of either_of_book).rules ≡ 12

pub cases : Cases
unfolding number_at longer_at last_group number_in number_below spell_number least_byte name_of same_name listed find_name colour_at colours_of put
    colour_number_at join_at body_at rule_at rules_at figures_at ruled_at figured_at book_by greatest_of size_at no_cells cells_at filled_at sheet_of
    repeats stands same_rule firsts without_copies and_then or_else called? any_cut fits_body any_rule gives_in derives?
    each pieces bits entry table least works cut_of covers fits takes taken lowest chosen choose tree_within tree_of
    judged roomed derivation
    without merged copies joined repeated either_of counts_within? within_limits? written made lent_by
cases =
    record {
      contents = refl;
      p1 = refl;
      p1_tree = refl;
      p2 = refl;
      p3 = refl;
      p3_tree = refl;
      p4 = refl;
      p5 = refl;
      p6 = refl;
      p6_tree = refl;
      p7 = refl;
      p8 = refl;
      p9_book = refl;
      p9 = refl;
      p9_not = refl;
      p10_book = refl;
      p10_motifs = refl;
      p10_rules = refl;
      p10_bytes = refl;
      p10_not = refl;
      p11_book = refl;
      p11_motifs = refl;
      p11_rules = refl;
      p12_book = refl;
      p12_motifs = refl;
      p12_rules = refl;
    }
