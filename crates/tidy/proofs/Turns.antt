-- One turn of each loop that marks: what is left of a pass and of the passes, done from here, is the whole.
use Prim.Native.Nat.{ℕ, ◌+◌, ◌-◌, ◌≤◌, ◌<◌}
use native.Mathlib.Numerals.{add-one}
use native.Mathlib.Omega.{arith}
use mathlib.Core.Path.{◌≡◌, sym, ◌∙◌, ap}
use mathlib.Core.List.{List, ◌∷◌, Memᴰ}
use lib.ListN.{length, get_or, drop, drop_of_length-le}
use lib.Seq.{drop-cons}
use Rattle.names.proofs.Count.{left-suc}
use Rattle.names.proofs.Listing.{get_or-mem}
use Rattle.books.specs.Rules.{no_rule}
use Rattle.books.specs.declared.rule.Rule.{Rule}
use Rattle.tidy.specs.Marking.{pass, passes}

-- the rule at the loop's place is one of the rules
pub rule_stands : (rs : List Rule) (i : ℕ) → i < length rs → Memᴰ (get_or rs i no_rule) rs
rule_stands rs i h = get_or-mem rs i no_rule h

module _ (step : ℕ → Rule → ℕ) (rs : List Rule) where
  pub pass_turn : (m i : ℕ) → i < length rs → pass step (drop i rs) m ≡ pass step (drop (i + 1) rs) (step m (get_or rs i no_rule))
  unfolding pass
  pass_turn m i h =
      ap (λ (l : List Rule). pass step l m)
      (drop-cons rs i no_rule h ∙ ap (λ (n : ℕ). get_or rs i no_rule ∷ drop n rs) (sym (add-one i)))

  pub pass_ends : (m i : ℕ) → length rs ≤ i → pass step (drop i rs) m ≡ m
  unfolding pass
  pass_ends m i h = ap (λ (l : List Rule). pass step l m) (drop_of_length-le rs {i = i} h)

  pub passes_turn : (turns m i : ℕ) → i < turns → passes step rs (turns - i) m ≡ passes step rs (turns - (i + 1)) (pass step rs m)
  unfolding passes
  passes_turn turns m i h = ap (λ (k : ℕ). passes step rs k m) (left-suc turns i h)

  pub passes_end : (turns m i : ℕ) → turns ≤ i → passes step rs (turns - i) m ≡ m
  unfolding passes
  passes_end turns m i h = let none : turns - i ≡ 0 = omega arith in ap (λ (k : ℕ). passes step rs k m) none
