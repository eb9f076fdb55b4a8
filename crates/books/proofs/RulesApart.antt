-- The parts of a rule are read off its number: each fits a byte, so that division takes the number apart again, and the number settles the rule.
use Prim.Native.Nat.{ℕ, ◌/◌, ◌%◌, ◌^◌, ◌≤◌, ◌<◌}
use mathlib.Core.Path.{◌≡◌, ap, ap₂}
use native.Mathlib.Omega.{arith}
use Rattle.books.specs.Keeps.{BodyFits, RuleFits}
use Rattle.books.specs.RuleNumbers.{kind_of, first_held, second_held, packed_rule}
use Rattle.books.specs.declared.rule.Rule.{Rule}
use Rattle.books.specs.declared.rule.Body.{Body}
use Rattle.books.specs.declared.rule.Body.TheVariants.{Colour, Across, Down}

-- the parts of a rule, as a host reads them off its number
pub record RuleApart (r : Rule) (n : ℕ) : Type 0 where
  pub head_is : n % 2 ^ 8 ≡ r.head
  pub kind_is : n / 2 ^ 8 % 2 ^ 8 ≡ kind_of r.body
  pub first_is : n / 2 ^ 16 % 2 ^ 8 ≡ first_held r.body
  pub second_is : n / 2 ^ 24 % 2 ^ 8 ≡ second_held r.body
  pub one_above : n / 2 ^ 32 ≡ 1

body-small : (m n : ℕ) → m ≤ 2 ^ 8 → n ≤ 2 ^ 8 → (b : Body) → BodyFits m n b → (kind_of b < 2 ^ 8) × (first_held b < 2 ^ 8) × (second_held b < 2 ^ 8)
body-small m n h g (Colour c) f = (omega arith, omega arith, omega arith)
body-small m n h g (Across l r) f = (omega arith, omega arith, omega arith)
body-small m n h g (Down u v) f = (omega arith, omega arith, omega arith)

pub rule-apart : (m n : ℕ) (r : Rule) → m ≤ 2 ^ 8 → n ≤ 2 ^ 8 → RuleFits m n r → RuleApart r (packed_rule r)
rule-apart m n r h g f =
    let head = f.head_fits in
    let small = body-small m n h g r.body f.body_fits in
    record { head_is = omega arith; kind_is = omega arith; first_is = omega arith; second_is = omega arith; one_above = omega arith }

-- so that the number settles the rule
body-settled : (b c : Body) → kind_of b ≡ kind_of c → first_held b ≡ first_held c → second_held b ≡ second_held c → b ≡ c
body-settled (Colour c) (Colour d) k f s = ap Colour f
body-settled (Across l r) (Across m t) k f s = ap₂ Across f s
body-settled (Down u v) (Down w x) k f s = ap₂ Down f s
body-settled (Colour c) (Across m t) k f s = absurd (omega arith)
body-settled (Colour c) (Down w x) k f s = absurd (omega arith)
body-settled (Across l r) (Colour d) k f s = absurd (omega arith)
body-settled (Across l r) (Down w x) k f s = absurd (omega arith)
body-settled (Down u v) (Colour d) k f s = absurd (omega arith)
body-settled (Down u v) (Across m t) k f s = absurd (omega arith)

pub one-rule : {n : ℕ} {r q : Rule} → RuleApart r n → RuleApart q n → r ≡ q
one-rule {n} {r} {q} a b =
    let head : r.head ≡ q.head = cc in
    let body = body-settled r.body q.body (cc) (cc) (cc) in
    λ i. record { head = head i; body = body i }
