-- The rules that stand are the first of their row: from each place on, the rule at it and those after it are left.
use Prim.Native.Nat.{ℕ, suc, ◌+◌, ◌≤◌, ◌<◌}
use native.Mathlib.Numerals.{add-one}
use native.Mathlib.Omega.{arith}
use mathlib.Core.Path.{◌≡◌, sym, ◌∙◌, ap}
use mathlib.Core.List.Memᴰ
use mathlib.Core.List.{List, [], ◌∷◌, Memᴰ}
use lib.ListN.{length, get_or, take, drop, set, drop_of_length-le}
use lib.Seq.{sets, drop-cons, get_or-take, length-take-le}
use Rattle.names.proofs.Listing.{get_or-mem}
use Rattle.books.specs.Rules.{no_rule}
use Rattle.books.specs.declared.rule.Rule.{Rule}

module _ (rules : List Rule) (count : ℕ) (few : count ≤ length rules) where
  abbrev there : List Rule
  there = take count rules

  pub there-length : length there ≡ count
  there-length = length-take-le count rules few

  -- one rule less is left
  pub there-next : (i : ℕ) → i < count → drop i there ≡ get_or rules i no_rule ∷ drop (i + 1) there
  there-next i h =
      drop-cons there i no_rule (omega (arith, there-length))
      ∙ ap (λ (r : Rule). r ∷ drop (suc i) there) (get_or-take count rules i no_rule h)
      ∙ ap (λ (n : ℕ). get_or rules i no_rule ∷ drop n there) (sym (add-one i))

  pub there-none : (i : ℕ) → count ≤ i → drop i there ≡ []
  there-none i h = drop_of_length-le there {i = i} (omega (arith, there-length))

  pub there-stands : (i : ℕ) → i < count → Memᴰ (get_or rules i no_rule) there
  there-stands i h = Memᴰ.cast (sym (get_or-take count rules i no_rule h)) (get_or-mem there i no_rule (omega (arith, there-length)))

-- one rule written, and the others after it
pub one_written : (rules : List Rule) (at : ℕ) (x : Rule) (xs : List Rule) → sets (set rules at x) (at + 1) xs ≡ sets rules at (x ∷ xs)
one_written rules at x xs = ap (λ (n : ℕ). sets (set rules at x) n xs) (add-one at)
