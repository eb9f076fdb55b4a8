-- One turn of the loop that clears a family: the rule at its place is left or not, and what is left of the others is left from here. What is left in the end
-- are the rules that stand in the cleared family.
use Prim.Native.Nat.{ℕ, ◌+◌, ◌≤◌, ◌<◌}
use native.Mathlib.Numerals.{add-one}
use native.Mathlib.Omega.{arith}
use mathlib.Core.Path.{◌≡◌, refl, sym, ◌∙◌, ap}
use mathlib.Core.Bool.{Bool, true, false}
use mathlib.Core.List.{List, [], ◌∷◌, ◌++◌, map}
use lib.ListN.{length, get_or, take, drop, length-map, drop_of_length-le}
use lib.Seq.{sets, sets-eq, take-suc, take_at, get_or-take, drop-cons}
use mathlib.Core.Logic.{⊎_elim}
use Rattle.names.specs.Pick.{pick, and_then}
use Rattle.names.specs.Colours.{names_in}
use Rattle.names.proofs.Tests.{true-or-false}
use Rattle.books.specs.Rules.{no_rule}
use Rattle.books.specs.ContentsIn.{contents_in}
use Rattle.books.specs.declared.family.Family.{Family}
use Rattle.books.specs.declared.rule.Rule.{Rule}
use Rattle.books.proofs.GreaterCounts.{rule-more}
use Rattle.books.proofs.StandingRules.{there-length}
use Rattle.tidy.specs.Marks.{rank}
use Rattle.books.specs.Equal.{stands, firsts}
use Rattle.tidy.specs.Tidied.{uses, usable, renumbered, leaving}
use Rattle.tidy.specs.inner.Kept.{rules_standing, RulesKept}
use Rattle.books.specs.RuleNumbers.{numbers_of, among}
use Rattle.tidy.specs.inner.Cleared.{is_left, left_after, cleared}
use Rattle.books.proofs.EqualNumbers.{stands-by-number}
use Rattle.books.proofs.Firsts.{firsts-length}
use Rattle.tidy.proofs.Leaving.{usable-length}

-- no more are left than there were
pub left-few : (m : ℕ) (before rs : List Rule) → length (left_after m before rs) ≤ length rs
left-few m before rs =
    omega (arith, length-map (usable m (firsts before rs)) (renumbered m), usable-length m (firsts before rs), firsts-length before rs)

-- what is left from a place on
abbrev pub left_from : ℕ → List Rule → ℕ → List Rule
left_from m rs i = left_after m (take i rs) (drop i rs)

module _ (m : ℕ) (rs : List Rule) where
  pub left_ends : (i : ℕ) → length rs ≤ i → left_from m rs i ≡ []
  unfolding firsts usable
  left_ends i h = ap (left_after m (take i rs)) (drop_of_length-le rs {i = i} h)

  module _ (i : ℕ) (h : i < length rs) where
    abbrev rule : Rule
    rule = get_or rs i no_rule

    after : take (i + 1) rs ≡ take i rs ++ (rule ∷ [])
    after = ap (λ (n : ℕ). take n rs) (add-one i) ∙ take-suc rs i no_rule h

    -- the rules after it of which no equal one stands earlier
    abbrev others : List Rule
    others = firsts (take (i + 1) rs) (drop (i + 1) rs)

    opened : left_from m rs i ≡ map (renumbered m) (usable m (pick (stands (take i rs) rule) others (rule ∷ others)))
    unfolding firsts
    opened =
        ap (left_after m (take i rs)) (drop-cons rs i no_rule h ∙ ap (λ (n : ℕ). rule ∷ drop n rs) (sym (add-one i)))
        ∙ ap (λ (l : List Rule). map (renumbered m) (usable m (pick (stands (take i rs) rule)
        (firsts l (drop (i + 1) rs)) (rule ∷ firsts l (drop (i + 1) rs))))) (sym after)

    by_copy : {stood : Bool} → stands (take i rs) rule ≡ stood → left_from m rs i ≡ map (renumbered m) (usable m (pick stood others (rule ∷ others)))
    by_copy e = opened ∙ ap (λ (t : Bool). map (renumbered m) (usable m (pick t others (rule ∷ others)))) e

    by-use : {used : Bool} → uses m rule ≡ used
        → map (renumbered m) (usable m (rule ∷ others)) ≡ map (renumbered m) (pick used (rule ∷ usable m others) (usable m others))
    unfolding usable
    by-use e = ap (λ (t : Bool). map (renumbered m) (pick t (rule ∷ usable m others) (usable m others))) e

    left-taken : stands (take i rs) rule ≡ false → uses m rule ≡ true → left_from m rs i ≡ renumbered m rule ∷ left_from m rs (i + 1)
    left-taken es eu = by_copy es ∙ by-use eu

    left-copy : stands (take i rs) rule ≡ true → left_from m rs i ≡ left_from m rs (i + 1)
    left-copy es = by_copy es

    left-unused : uses m rule ≡ false → left_from m rs i ≡ left_from m rs (i + 1)
    left-unused eu = ⊎_elim (λ es. left-copy es) (λ es. by_copy es ∙ by-use eu) (true-or-false (stands (take i rs) rule))

    -- as the code finds it, by the numbers of the rules before it
    pub left_by : (before : List ℕ) (number : ℕ) → among before number ≡ stands (take i rs) rule
        → left_from m rs i ≡ pick (is_left m rule before number) (renumbered m rule ∷ left_from m rs (i + 1)) (left_from m rs (i + 1))
    unfolding is_left and_then
    left_by before number found =
        ⊎_elim
        (λ (eu : uses m rule ≡ true). ⊎_elim
        (λ (es : stands (take i rs) rule ≡ true). simp (found, eu, es) (left-copy es))
        (λ (es : stands (take i rs) rule ≡ false). simp (found, eu, es) (left-taken es eu))
        (true-or-false (stands (take i rs) rule)))
        (λ (eu : uses m rule ≡ false). simp eu (left-unused eu))
        (true-or-false (uses m rule))

-- the number of a family's rule stands among those before it exactly where an equal rule does
pub found_by_number : (f : Family) → RulesKept f → (i : ℕ) → i < f.count
    → among (take i (numbers_of f.rules f.count)) (get_or (numbers_of f.rules f.count) i 0)
    ≡ stands (take i (rules_standing f)) (get_or (rules_standing f) i no_rule)
found_by_number f kept i h =
    stands-by-number f.rules f.count (omega (arith, kept.rules_few, kept.places_all)) i h
    (λ r m. rule-more _ _ _ _ r (omega arith) (omega arith) (kept.fit r m))
    ∙ ap (stands (take i (rules_standing f))) (sym (get_or-take f.count f.rules i no_rule h))

-- The cleared family holds what is left of the book.
pub cleared-contents : (s : List ℕ) (f : Family) (m : ℕ) → RulesKept f → contents_in s (cleared m f) ≡ leaving m (contents_in s f)
unfolding cleared leaving
cleared-contents s f m fitted =
    let left : List Rule = left_after m [] (rules_standing f) in
    let few : 0 + length left ≤ length f.rules =
    omega (arith, left-few m [] (rules_standing f), there-length f.rules f.count (omega (arith, fitted.rules_few, fitted.places_all)), fitted.rules_few, fitted.places_all) in
    let rules_are : take (length left) (sets f.rules 0 left) ≡ left =
    ap (take (length left)) (sets-eq left f.rules 0 few) ∙ take_at left _ (length left) refl in
    λ i. record { colours = names_in s f.colours; motifs = rank m f.motifs; start = rank m f.start; rules = rules_are i }
