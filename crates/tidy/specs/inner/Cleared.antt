-- What is left of a family.
use Rattle.std.specs.Prelude.{ℕ, Bool, true, false, List, [], map, length}
use Rattle.std.proofs.lemmas.List.Edits.{sets}
use Rattle.names.specs.Pick.{pick, and_then}
use Rattle.books.specs.Equal.{firsts}
use Rattle.books.specs.RuleNumbers.{among}
use Rattle.books.specs.declared.family.Family.{Family}
use Rattle.books.specs.declared.rule.Rule.{Rule}
use Rattle.tidy.specs.Marks.{rank}
use Rattle.tidy.specs.Tidied.{uses, usable, renumbered}
use Rattle.tidy.specs.inner.Kept.{rules_standing}

-- whether a rule is left: its motifs are all marked, and its number stands not among those before it
unfoldable pub is_left : ℕ → Rule → List ℕ → ℕ → Bool
is_left m r before number = and_then (uses m r) (λ _. pick (among before number) false true)

-- the rules that are left of those that follow others
abbrev pub left_after : ℕ → List Rule → List Rule → List Rule
left_after m before rs = map (renumbered m) (usable m (firsts before rs))

-- ... stand in the first places, and behind them what stood there
unfoldable pub cleared : ℕ → Family → Family
cleared m f =
    record {
      colours = f.colours;
      motifs = rank m f.motifs;
      start = rank m f.start;
      count = length (left_after m [] (rules_standing f));
      rules = sets f.rules 0 (left_after m [] (rules_standing f));
    }
