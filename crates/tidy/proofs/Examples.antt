-- Books tidied by computing. The first has a motif that nothing reaches, one that cannot be rewritten, one that stands only beside that one, and a
-- rule twice. Of two chains the one takes a pass for each motif that can be rewritten, the other for each that is reached. The last one's start
-- cannot be rewritten.
use Prim.Native.Nat.{ℕ}
use mathlib.Core.Path.{◌≡◌, refl}
use mathlib.Core.Bool.{false}
use mathlib.Core.List.{List, [], ◌∷◌}
use Rattle.names.specs.Name.{same_name}
use Rattle.books.specs.Contents.{Contents}
use Rattle.names.specs.Pick.{and_then, or_else}
use Rattle.books.specs.declared.rule.Rule.{Rule}
use Rattle.books.specs.declared.rule.Body.{Body}
use Rattle.books.specs.declared.rule.Body.TheVariants.{Colour, Across, Down}
use Rattle.names.specs.Bits.{bit, is_set}
use Rattle.tidy.specs.Marks.{adding, rank}
use Rattle.tidy.specs.Marking.{all_marked, adding_body, mark_head, mark_body, pass, passes, rewritten, reached, rewrites?}
use Rattle.books.specs.Equal.{same_rule, stands, firsts}
use Rattle.tidy.specs.Tidied.{uses, usable, leaving, tidied}

rule : ℕ → Body → Rule
rule a x = record { head = a; body = x }

book : ℕ → ℕ → List Rule → Contents
book motifs start rules = record { colours = (65 ∷ []) ∷ (66 ∷ []) ∷ []; motifs = motifs; start = start; rules = rules }

-- nothing reaches motif 1, motif 2 cannot be rewritten, and motif 3 stands beside motif 2 only
pub untidy : Contents
unfolding rule book
untidy =
    book 6 5 (rule 5 (Across 4 0) ∷ rule 0 (Colour 1) ∷ rule 1 (Across 4 0) ∷ rule 5 (Down 2 3) ∷ rule 3 (Colour 0) ∷ rule 4 (Colour 0)
    ∷ rule 5 (Across 4 0) ∷ rule 2 (Across 2 0) ∷ rule 4 (Colour 1) ∷ [])

pub neat : Contents
unfolding rule book
neat = book 3 2 (rule 2 (Across 1 0) ∷ rule 0 (Colour 1) ∷ rule 1 (Colour 0) ∷ rule 1 (Colour 1) ∷ [])

pub chain : Contents
unfolding rule book
chain =
    book 4 0 (rule 0 (Across 1 1) ∷ rule 1 (Down 2 2) ∷ rule 2 (Across 3 3) ∷ rule 3 (Colour 0) ∷ [])

pub backwards : Contents
unfolding rule book
backwards =
    book 4 3 (rule 0 (Colour 0) ∷ rule 1 (Across 0 0) ∷ rule 2 (Down 1 1) ∷ rule 3 (Across 2 2) ∷ [])

pub endless : Contents
unfolding rule book
endless = book 2 0 (rule 0 (Across 0 1) ∷ rule 1 (Colour 0) ∷ [])

pub record Tidied : Type 0 where
  pub untidy_neat : tidied untidy ≡ neat
  pub neat_again : tidied neat ≡ neat
  pub chain_same : tidied chain ≡ chain
  pub backwards_same : tidied backwards ≡ backwards
  pub endless_start : rewrites? endless 0 ≡ false

pub examples : Tidied
unfolding rule book untidy neat chain backwards endless
    and_then or_else bit is_set adding rank all_marked adding_body mark_head mark_body pass passes rewritten reached same_name same_rule stands firsts uses usable leaving tidied
examples = record { untidy_neat = refl; neat_again = refl; chain_same = refl; backwards_same = refl; endless_start = refl }
