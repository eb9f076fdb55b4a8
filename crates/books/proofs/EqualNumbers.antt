-- An equal rule stands earlier exactly where an equal number does: a rule that fits the counts of a book is taken back from its number.
use Prim.Native.Nat.{ℕ, suc, ◌+◌, ◌-◌, ◌^◌, ◌≤◌, ◌<◌}
use native.Mathlib.Omega.{arith}
use mathlib.Core.Path.{◌≡◌, refl, sym, ◌∙◌, ap, subst}
use Rattle.std.specs.Prelude.{nat_eq, ◌||◌}
use Rattle.std.specs.List.{list_any}
use mathlib.Core.Bool.{Bool, true, false}
use mathlib.Core.List.Memᴰ
use mathlib.Core.List.{List, [], ◌∷◌, ◌++◌, map, map-append, append_assoc, Memᴰ}
use borrow.Author.Tests.{eqb-true, eq-eqb}
use lib.Dec.{eqb}
use lib.ListN.{length, get_or, take, drop, replicate, length-append, length-map, length-replicate, take-append-drop}
use lib.Seq.{split_at, get_or-take, get_or_at, take_at, length-take-le}
use Rattle.names.specs.Pick.{or_else}
use Rattle.names.proofs.Tests.{both_ways}
use Rattle.books.specs.Keeps.{most_rules}
use Rattle.books.specs.Rules.{no_rule}
use Rattle.books.specs.declared.rule.Rule.{Rule}
use Rattle.books.proofs.RulesApart.{RuleApart, rule-apart, one-rule}
use Rattle.books.proofs.StandingRules.{there-length, there-stands}
use Rattle.books.specs.Equal.{same_rule, stands}
use Rattle.books.specs.RuleNumbers.{rule_number, packed_rule, FitsBytes, AllFit, numbers_of, among}
use Rattle.books.proofs.EqualRules.{rule-same}

-- ── Rules and their numbers ──

apart : (r : Rule) → FitsBytes r → RuleApart r (packed_rule r)
apart r f = rule-apart (2 ^ 8) (2 ^ 8) r (omega arith) (omega arith) f

equal-numbers : (q r : Rule) → FitsBytes q → FitsBytes r → eqb (rule_number q) (rule_number r) ≡ same_rule q r
equal-numbers q r fq fr =
    both_ways _ _
    (λ e. (rule-same q r).1 (one-rule (apart q fq) (subst (RuleApart r) (ap (λ (n : ℕ). n + 2 ^ 32) (sym (eqb-true (rule_number q) (rule_number r) e))) (apart r fr))))
    (λ e. eq-eqb _ _ (ap rule_number ((rule-same q r).0 e)))

pub among-stands : (rs : List Rule) (r : Rule) → AllFit rs → FitsBytes r → among (map rule_number rs) (rule_number r) ≡ stands rs r
unfolding among stands
among-stands [] r fs f = refl
among-stands (q ∷ rs) r fs f =
    λ i. or_else (equal-numbers q r (fs q (Memᴰ.head refl)) f i) (λ _. among-stands rs r (λ z j. fs z (Memᴰ.tail j)) f i)

module _ (rules : List Rule) (count : ℕ) (few : count ≤ length rules) (i : ℕ) (h : i < count) where
  abbrev there : List Rule
  there = take count rules

  abbrev rule : Rule
  rule = get_or rules i no_rule

  -- the numbers before that of the i-th rule, and those after it
  before : List ℕ
  before = map rule_number (take i there)

  after : List ℕ
  after = map rule_number (drop (suc i) there) ++ replicate (most_rules - count) 0

  before-length : length before ≡ i
  unfolding before
  before-length = length-map (take i there) rule_number ∙ length-take-le i there (omega (arith, there-length rules count few))

  numbers-split : numbers_of rules count ≡ before ++ (rule_number rule ∷ after)
  unfolding numbers_of before after
  numbers-split =
      let split : there ≡ take i there ++ (rule ∷ drop (suc i) there) =
      split_at there i no_rule (omega (arith, there-length rules count few))
      ∙ ap (λ (r : Rule). take i there ++ (r ∷ drop (suc i) there)) (get_or-take count rules i no_rule h) in
      ap (λ (l : List Rule). map rule_number l ++ replicate (most_rules - count) 0) split
      ∙ ap (λ (l : List ℕ). l ++ replicate (most_rules - count) 0) (map-append rule_number (take i there) (rule ∷ drop (suc i) there))
      ∙ append_assoc (map rule_number (take i there)) (map rule_number (rule ∷ drop (suc i) there)) (replicate (most_rules - count) 0)

  pub stands-by-number : AllFit there
      → among (take i (numbers_of rules count)) (get_or (numbers_of rules count) i 0) ≡ stands (take i there) rule
  unfolding before
  stands-by-number all =
      let fs : AllFit (take i there) = λ r j. all r (subst (Memᴰ r) (take-append-drop i there) (Memᴰ.append_left (drop i there) j)) in
      (λ j. among (take i (numbers-split j)) (get_or (numbers-split j) i 0))
      ∙ (λ j. among (take_at before (rule_number rule ∷ after) i before-length j) (get_or_at before (rule_number rule) after 0 i before-length j))
      ∙ among-stands (take i there) rule fs (all rule (there-stands rules count few i h))

pub numbers-length : (rules : List Rule) (count : ℕ) → count ≤ length rules → count ≤ most_rules → length (numbers_of rules count) ≡ most_rules
unfolding numbers_of
numbers-length rules count few most =
    length-append (map rule_number (take count rules)) (replicate (most_rules - count) 0)
    ∙ omega (arith, length-map (take count rules) rule_number, there-length rules count few, length-replicate {A = ℕ} (most_rules - count) 0)

-- the numbers of so many rules come first
pub numbers-before : (rules : List Rule) (count : ℕ) → count ≤ length rules → take count (numbers_of rules count) ≡ map rule_number (take count rules)
unfolding numbers_of
numbers-before rules count few =
    take_at (map rule_number (take count rules)) _ count (length-map (take count rules) rule_number ∙ there-length rules count few)

-- ── A number looked for ──

either : (t u : Bool) → or_else t (λ _. u) ≡ (t || u)
unfolding or_else
either true u = refl
either false u = refl

-- a number stands in a list where one of it is equal
pub among_any : (ns : List ℕ) (n : ℕ) → list_any (λ y. nat_eq y n) ns ≡ among ns n
unfolding among
among_any [] n = refl
among_any (k ∷ ks) n = sym (either (nat_eq k n) (list_any (λ y. nat_eq y n) ks)) ∙ ap (λ (t : Bool). or_else (nat_eq k n) (λ _. t)) (among_any ks n)
