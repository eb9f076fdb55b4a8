-- While rules are read, their numbers are laid out beside them: a rule repeats one before it exactly where its number does, and reading what is left from here
-- gives what reading them all gives.
use Prim.Native.Nat.{ℕ, ◌+◌, ◌-◌, ◌≤◌, ◌<◌}
use native.Mathlib.Numerals.{add-one}
use native.Mathlib.Omega.{arith}
use mathlib.Core.Path.{◌≡◌, refl, sym, ◌∙◌, ap, subst}
use mathlib.Core.Bool.{Bool, true, false}
use mathlib.Core.List.Memᴰ
use mathlib.Core.List.{List, [], ◌∷◌, ◌++◌, map, Memᴰ}
use mathlib.Core.Logic.{⊎_elim}
use lib.ListN.{length, take, set, replicate, length-set}
use lib.Seq.{take-set-le, take-suc-set, get_or-set_same}
use Rattle.names.specs.Pick.{and_then, fault}
use Rattle.names.specs.Spelling.{most_colours}
use Rattle.names.proofs.Count.{left-suc, left-all}
use Rattle.books.specs.Keeps.{most_motifs, most_rules}
use Rattle.books.specs.RuleNumbers.{rule_number, FitsBytes, AllFit, numbers_of, among}
use Rattle.books.specs.Rules.{no_rule, no_rules, rule_at, refused_rules, repeats, number_repeats, rules_from, rules_at}
use Rattle.books.specs.declared.rule.Rule.{Rule}
use Rattle.books.specs.RuleRead.{Whole as WholeRule}
use Rattle.books.proofs.EqualNumbers.{among-stands, numbers-before}
use Rattle.books.proofs.GreaterCounts.{rule-more}
use Rattle.books.proofs.LentRules.{laid_next}
use Rattle.books.proofs.ReadingRules.{rule_fits}

module _ (rules : List Rule) (all : length rules ≡ most_rules) (i : ℕ) (h : i < most_rules) (fit : AllFit (take i rules)) where
  -- a rule repeats one before it exactly where its number does
  pub repeats-by-number : (strict : Bool) (x : Rule) → FitsBytes x → {ns front : List ℕ} → ns ≡ numbers_of rules i → front ≡ take i ns
      → number_repeats strict front (rule_number x) ≡ repeats strict (take i rules) x
  unfolding repeats number_repeats
  repeats-by-number strict x f {ns} {front} laid first =
      let numbers : front ≡ map rule_number (take i rules) = first ∙ ap (take i) laid ∙ numbers-before rules i (omega arith) in
      ap (λ (t : Bool). and_then strict (λ _. t)) (ap (λ (l : List ℕ). among l (rule_number x)) numbers ∙ among-stands (take i rules) x fit f)

  -- its number goes into the place after those before it
  pub numbered_next : (x : Rule) {ns : List ℕ} → ns ≡ numbers_of rules i → set ns i (rule_number x) ≡ numbers_of (set rules i x) (i + 1)
  unfolding numbers_of
  numbered_next x laid =
      ap (λ (l : List ℕ). set l i (rule_number x)) (laid ∙ ap (λ (l : List Rule). map rule_number l ++ replicate (most_rules - i) 0) (sym (take-set-le i rules i x (omega arith))))
      ∙ laid_next rule_number 0 (set rules i x) (rule_number x) i (omega (arith, length-set rules i x)) h (ap rule_number (sym (get_or-set_same rules i x no_rule (omega arith))))

  pub fit_next : (x : Rule) → FitsBytes x → AllFit (take (i + 1) (set rules i x))
  fit_next x f r m =
      let begins : take (i + 1) (set rules i x) ≡ take i rules ++ (x ∷ []) =
      ap (λ (n : ℕ). take n (set rules i x)) (add-one i) ∙ take-suc-set rules i x (omega arith) in
      ⊎_elim (fit r) (λ u. subst FitsBytes (sym (Memᴰ.eq_of_singleton u)) f)
      (Memᴰ.append_cases (take i rules) (subst (Memᴰ r) begins m))

-- so many rules were read: they stand with their numbers, and reading on gives the whole
pub record Going (strict : Bool) (s : List ℕ) (from motifs colours count : ℕ) (rules : List Rule) (numbers : List ℕ) (at i : ℕ) : Type 0 where
  pub few : i ≤ count
  pub all : length rules ≡ most_rules
  pub fit : AllFit (take i rules)
  pub laid : numbers ≡ numbers_of rules i
  pub left : rules_from strict s motifs colours rules i at (count - i) ≡ rules_at strict s from motifs colours count

module _ (strict : Bool) (s : List ℕ) (from motifs colours count : ℕ) where
  pub going-begins : Going strict s from motifs colours count no_rules (replicate most_rules 0) from 0
  unfolding numbers_of rules_at
  going-begins = record { few = omega arith; all = refl; fit = λ r m. absurd (Memᴰ.not-nil m); laid = refl; left = simp left-all }

  module _ {rules : List Rule} {numbers : List ℕ} {at i : ℕ} (g : Going strict s from motifs colours count rules numbers at i) where
    module _ (h : i < count) (few_motifs : motifs ≤ most_motifs) (few_colours : colours ≤ most_colours) (few_rules : count ≤ most_rules)
        {x : Rule} {next : ℕ} (e : rule_at s at motifs colours ≡ WholeRule x next) {n : ℕ} (number : n ≡ rule_number x) {front : List ℕ} (first : front ≡ take i numbers) where
      fits : FitsBytes x
      fits = rule-more motifs colours _ _ x (omega arith) (omega arith) (rule_fits s at motifs colours x next e)

      inside : i < most_rules
      inside = omega arith

      found : {t : Bool} → number_repeats strict front n ≡ t → repeats strict (take i rules) x ≡ t
      found q =
          sym (repeats-by-number rules g.all i inside g.fit strict x fits g.laid first)
          ∙ ap (number_repeats strict front) (sym number) ∙ q

      pub going-repeats : number_repeats strict front n ≡ true → refused_rules (fault 18 at) ≡ rules_at strict s from motifs colours count
      going-repeats q = simp (left-suc _ _ h, e, found q) at g.left

      pub going_next : number_repeats strict front n ≡ false → Going strict s from motifs colours count (set rules i x) (set numbers i n) next (i + 1)
      going_next q =
          record {
            few = omega arith;
            all = length-set rules i x ∙ g.all;
            fit = fit_next rules g.all i inside g.fit x fits;
            laid = ap (set numbers i) number ∙ numbered_next rules g.all i inside g.fit x g.laid;
            left = simp (left-suc _ _ h, e, found q) at g.left;
          }
