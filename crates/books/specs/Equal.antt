-- Equal rules: which they are, and what is left where later ones are left out.
use Rattle.std.specs.Prelude.{ℕ, Bool, false, List, [], ◌∷◌, ◌++◌}
use Rattle.names.specs.Pick.{pick, or_else}
use Rattle.names.specs.Name.{same_name}
use Rattle.books.specs.Contents.{Contents}
use Rattle.books.specs.declared.rule.Rule.{Rule}
use Rattle.books.specs.declared.rule.Body.{Body}
use Rattle.books.specs.declared.rule.Body.TheVariants.{Colour, Across, Down}

-- the four bytes of a rule: head and kind, then a colour, or two motifs, as a book spells them
abbrev pub bodied : ℕ → Body → List ℕ
bodied head (Colour c) = head ∷ 0 ∷ c ∷ 0 ∷ []
bodied head (Across l r) = head ∷ 1 ∷ l ∷ r ∷ []
bodied head (Down u v) = head ∷ 2 ∷ u ∷ v ∷ []

abbrev pub four_of : Rule → List ℕ
four_of r = bodied r.head r.body

-- whether two rules are equal: their bytes are the same
unfoldable pub same_rule : Rule → Rule → Bool
same_rule q r = same_name (four_of q) (four_of r)

-- whether a rule stands in a list
unfoldable pub stands : List Rule → Rule → Bool
stands [] r = false
stands (q ∷ qs) r = or_else (same_rule q r) (λ _. stands qs r)

-- rules that follow others, without those of which an equal one stands earlier
unfoldable pub firsts : List Rule → List Rule → List Rule
firsts before [] = []
firsts before (r ∷ rs) = pick (stands before r) (firsts (before ++ (r ∷ [])) rs) (r ∷ firsts (before ++ (r ∷ [])) rs)

-- a book without the rules of which an equal one stands earlier
unfoldable pub without_copies : Contents → Contents
without_copies b = record { colours = b.colours; motifs = b.motifs; start = b.start; rules = firsts [] b.rules }
