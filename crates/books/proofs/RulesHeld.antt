-- While rules are read one after the other, the array begins with those that were read: each goes into the place after them.
use Prim.Native.Nat.{ℕ, ◌<◌}
use mathlib.Core.Path.{◌≡◌, ◌∙◌, ap}
use mathlib.Core.List.{List, [], ◌∷◌, ◌++◌}
use native.Mathlib.Numerals.{add-one}
use native.Mathlib.Omega.{arith}
use lib.ListN.{length, take, set, length-append, length-set}
use lib.Seq.{take-suc-set}
use Rattle.books.specs.Keeps.{most_rules}
use Rattle.books.specs.declared.rule.Rule.{Rule}

pub record Held (xs ys : List Rule) : Type 0 where
  pub all : length ys ≡ most_rules
  pub begins : take (length xs) ys ≡ xs

pub held_more : (xs ys : List Rule) (x : Rule) → length xs < most_rules → Held xs ys → Held (xs ++ (x ∷ [])) (set ys (length xs) x)
held_more xs ys x h held =
    record {
      all = length-set ys (length xs) x ∙ held.all;
      begins = ap (λ (n : ℕ). take n (set ys (length xs) x)) (length-append xs (x ∷ []) ∙ add-one (length xs))
          ∙ take-suc-set ys (length xs) x (omega (arith, held.all))
          ∙ ap (λ (l : List Rule). l ++ (x ∷ [])) held.begins;
    }
