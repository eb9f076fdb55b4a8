-- The tidied contents of a book: the colours as they are, the kept motifs and the rules that use no others, of equal rules the first, all
-- renumbered in their old order.
use Rattle.std.specs.Prelude.{ℕ, Bool, List, [], ◌∷◌, map}
use Rattle.names.specs.Pick.{pick, and_then}
use Rattle.names.specs.Bits.{is_set}
use Rattle.books.specs.Contents.{Contents}
use Rattle.books.specs.Equal.{firsts}
use Rattle.books.specs.Moved.{moved_rule}
use Rattle.books.specs.declared.rule.Rule.{Rule}
use Rattle.tidy.specs.Marks.{rank}
use Rattle.tidy.specs.Marking.{all_marked, reached}

-- the rules of which head and motifs are all marked
unfoldable pub uses : ℕ → Rule → Bool
uses m r = and_then (is_set m r.head) (λ _. all_marked m r.body)

unfoldable pub usable : ℕ → List Rule → List Rule
usable m [] = []
usable m (r ∷ rs) = pick (uses m r) (r ∷ usable m rs) (usable m rs)

-- a rule with its motifs renumbered among the marked ones
abbrev pub renumbered : ℕ → Rule → Rule
renumbered m = moved_rule (rank m) (λ c. c)

-- what is left of a book where the marked motifs are kept
unfoldable pub leaving : ℕ → Contents → Contents
leaving m b =
    record {
      colours = b.colours;
      motifs = rank m b.motifs;
      start = rank m b.start;
      rules = map (renumbered m) (usable m (firsts [] b.rules));
    }

-- where the start can be rewritten, so can every motif that is reached, and those are kept
unfoldable pub tidied : Contents → Contents
tidied b = leaving (reached b) b
