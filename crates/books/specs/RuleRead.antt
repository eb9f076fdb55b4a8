-- What reading a rule gives, and what reading rules one after the other gives.
use Rattle.std.specs.Prelude.{ℕ, List}
use Rattle.names.specs.Fault.{Fault}
use Rattle.books.specs.declared.rule.Rule.{Rule}

-- a rule and the place after it, or the fault
pub data RuleRead : Type 0 where
  Whole : Rule → ℕ → RuleRead
  Refused : Fault → RuleRead

-- the rules with the place after them; refused ones are the fixed rules and the place 0
pub record RulesRead : Type 0 where
  pub fault : Fault
  pub rules : List Rule
  pub next : ℕ
