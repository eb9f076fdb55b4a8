-- A rule that fits the counts of motifs and colours fits greater ones.
use Prim.Native.Nat.{ℕ, ◌≤◌}
use native.Mathlib.Omega.{arith}
use Rattle.books.specs.Keeps.{BodyFits, RuleFits}
use Rattle.books.specs.declared.rule.Rule.{Rule}
use Rattle.books.specs.declared.rule.Body.{Body}
use Rattle.books.specs.declared.rule.Body.TheVariants.{Colour, Across, Down}

body_more : (m n m' n' : ℕ) (x : Body) → m ≤ m' → n ≤ n' → BodyFits m n x → BodyFits m' n' x
body_more m n m' n' (Colour c) h k f = omega arith
body_more m n m' n' (Across l r) h k f = omega arith
body_more m n m' n' (Down u v) h k f = omega arith

pub rule-more : (m n m' n' : ℕ) (r : Rule) → m ≤ m' → n ≤ n' → RuleFits m n r → RuleFits m' n' r
rule-more m n m' n' r h k f = record { head_fits = omega (arith, f.head_fits); body_fits = body_more m n m' n' r.body h k f.body_fits }
