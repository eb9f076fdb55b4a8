-- Bodies and rules under other numbers.
use Rattle.std.specs.Prelude.{ℕ}
use Rattle.books.specs.declared.rule.Rule.{Rule}
use Rattle.books.specs.declared.rule.Body.{Body}
use Rattle.books.specs.declared.rule.Body.TheVariants.{Colour, Across, Down}

-- a body, and a rule, with the motifs renumbered by m and the colours by c
abbrev pub moved : (ℕ → ℕ) → (ℕ → ℕ) → Body → Body
moved m c (Colour x) = Colour (c x)
moved m c (Across l r) = Across (m l) (m r)
moved m c (Down u v) = Down (m u) (m v)

abbrev pub moved_rule : (ℕ → ℕ) → (ℕ → ℕ) → Rule → Rule
moved_rule m c r = record { head = m r.head; body = moved m c r.body }
