-- A rule in one number, a byte for each part from the lowest up, and how an equal rule is found by it.
use Rattle.std.specs.Prelude.{ℕ, ◌+◌, ◌-◌, ◌*◌, ◌^◌, Bool, false, eqb, take, replicate}
use mathlib.Core.List.{List, [], ◌∷◌, ◌++◌, map, Memᴰ}
use Rattle.names.specs.Pick.{or_else}
use Rattle.books.specs.Keeps.{most_rules, RuleFits}
use Rattle.books.specs.declared.rule.Rule.{Rule}
use Rattle.books.specs.declared.rule.Body.{Body}
use Rattle.books.specs.declared.rule.Body.TheVariants.{Colour, Across, Down}

abbrev pub kind_of : Body → ℕ
kind_of (Colour c) = 0
kind_of (Across l r) = 1
kind_of (Down u v) = 2

-- the colour number, or the left or upper motif
abbrev pub first_held : Body → ℕ
first_held (Colour c) = c
first_held (Across l r) = l
first_held (Down u v) = u

-- the right or lower motif
abbrev pub second_held : Body → ℕ
second_held (Colour c) = 0
second_held (Across l r) = r
second_held (Down u v) = v

abbrev pub rule_number : Rule → ℕ
rule_number r = r.head + 2 ^ 8 * kind_of r.body + 2 ^ 16 * first_held r.body + 2 ^ 24 * second_held r.body

-- the rule's number, and 1 above it, so that no rule is 0
abbrev pub packed_rule : Rule → ℕ
packed_rule r = rule_number r + 2 ^ 32

-- each part of a rule fits a byte, and so of every rule of a list
abbrev pub FitsBytes : Rule → Type 0
FitsBytes = RuleFits (2 ^ 8) (2 ^ 8)

abbrev pub AllFit : List Rule → Type 0
AllFit rs = (r : Rule) → Memᴰ r rs → FitsBytes r

-- the numbers of the first rules, and zeros behind them
unfoldable pub numbers_of : List Rule → ℕ → List ℕ
numbers_of rules count = map rule_number (take count rules) ++ replicate (most_rules - count) 0

-- whether a number stands in a list
unfoldable pub among : List ℕ → ℕ → Bool
among [] n = false
among (k ∷ ks) n = or_else (eqb k n) (λ _. among ks n)
