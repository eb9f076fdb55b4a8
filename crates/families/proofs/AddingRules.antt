-- Rules are gathered one after the other: what was gathered, with what is left to be gathered from a place on, makes the whole.
use Prim.Native.Nat.{ℕ, suc, ◌+◌, ◌≤◌, ◌<◌}
use native.Mathlib.Numerals.{add-one}
use native.Mathlib.Omega.{arith}
use mathlib.Core.Path.{◌≡◌, refl, sym, ◌∙◌, ap}
use mathlib.Core.Bool.{Bool}
use mathlib.Core.List.{List, [], ◌∷◌, ◌++◌, map, append_assoc, append-nil, Memᴰ}
use lib.Dec.{eqb}
use lib.ListN.{length, get_or, drop, drop_of_length-le}
use lib.Seq.{drop-cons}
use Rattle.names.specs.Pick.{pick}
use Rattle.names.proofs.Listing.{get_or-mem}
use Rattle.names.proofs.Picking.{pick_ind}
use Rattle.books.specs.Rules.{no_rule}
use Rattle.books.specs.declared.rule.Rule.{Rule}
use Rattle.books.proofs.StandingRules.{there-length}
use Rattle.families.specs.Combine.{copies}
use Rattle.families.specs.inner.Gathered.{standing, left_by}
use Rattle.families.specs.declared.rules.Rules.{Rules}
use Rattle.families.proofs.Copying.{copies-next}

-- what was gathered, with what is to be gathered from a place on, is the whole; no more was gathered than was passed
abbrev pub StillGathers : (List Rule → List Rule) → Rules → List Rule → ℕ → Type 0
StillGathers g l rs i = (l.count ≤ i) × (standing l ++ g (drop i rs) ≡ g rs)

module _ (g : List Rule → List Rule) (l : Rules) (rs : List Rule) (i : ℕ) (so_far : StillGathers g l rs i) where
  -- one rule more is gathered, ...
  pub gathers_one : (r : Rule) (m : Rules) → standing m ≡ standing l ++ (r ∷ []) → m.count ≡ l.count + 1
      → g (drop i rs) ≡ r ∷ g (drop (i + 1) rs) → StillGathers g m rs (i + 1)
  gathers_one r m are so_many next = (
    omega (arith, so_far.0),
    ap (λ (x : List Rule). x ++ g (drop (i + 1) rs)) are
        ∙ append_assoc (standing l) (r ∷ []) (g (drop (i + 1) rs))
        ∙ ap (λ (x : List Rule). standing l ++ x) (sym next)
        ∙ so_far.1,
  )

  -- ... or none
  pub gathers_none : g (drop i rs) ≡ g (drop (i + 1) rs) → StillGathers g l rs (i + 1)
  gathers_none next = (omega (arith, so_far.0), ap (λ (x : List Rule). standing l ++ x) (sym next) ∙ so_far.1)

  pub gathered_all : g [] ≡ [] → length rs ≤ i → {whole : List Rule} → rs ≡ whole → standing l ≡ g whole
  gathered_all none h same =
      sym (append-nil (standing l))
      ∙ ap (λ (x : List Rule). standing l ++ x) (sym (ap g (drop_of_length-le rs {i = i} h) ∙ none))
      ∙ so_far.1 ∙ ap g same

module _ (rs : List Rule) (i : ℕ) where
  abbrev pub rule_on : Rule
  rule_on = get_or rs i no_rule

  pub rule_stands : i < length rs → Memᴰ rule_on rs
  rule_stands h = get_or-mem rs i no_rule h

  pub left_next : i < length rs → drop i rs ≡ rule_on ∷ drop (i + 1) rs
  left_next h = drop-cons rs i no_rule h ∙ ap (λ (n : ℕ). rule_on ∷ drop n rs) (sym (add-one i))

  pub left_none : length rs ≤ i → drop i rs ≡ []
  left_none h = drop_of_length-le rs {i = i} h

  -- the head of the next rule decides whether it is copied
  pub copied_next : (n s : ℕ) → i < length rs → {t : Bool} → eqb rule_on.head s ≡ t
      → copies n s (drop i rs) ≡ pick t (record { head = n; body = rule_on.body } ∷ copies n s (drop (i + 1) rs)) (copies n s (drop (i + 1) rs))
  copied_next n s h test = ap (copies n s) (left_next h) ∙ copies-next n s _ _ test

  -- whether the next rule is found decides whether it is left out
  pub missed_next : (found : Rule → Bool) → i < length rs → {t : Bool} → found rule_on ≡ t
      → left_by found (drop i rs) ≡ pick t (left_by found (drop (i + 1) rs)) (rule_on ∷ left_by found (drop (i + 1) rs))
  unfolding left_by
  missed_next found h test =
      ap (left_by found) (left_next h)
      ∙ ap (λ (t : Bool). pick t (left_by found (drop (i + 1) rs)) (rule_on ∷ left_by found (drop (i + 1) rs))) test

  pub changed_next : (t : Rule → Rule) → i < length rs → map t (drop i rs) ≡ t rule_on ∷ map t (drop (i + 1) rs)
  changed_next t h = ap (map t) (left_next h)

-- the rules that stand are as many as are counted
pub so_many : (l : Rules) {rs : List Rule} → standing l ≡ rs → l.count ≡ length rs
so_many l e = sym (there-length l.rules l.count (omega (arith, l.few, l.places))) ∙ ap length e

-- Of rules those that are not found are no more, and two tests that agree on them leave the same.
pub left-few : (found : Rule → Bool) (rs : List Rule) → length (left_by found rs) ≤ length rs
unfolding left_by
left-few found [] = omega arith
left-few found (r ∷ rs) =
    pick_ind (λ (l : List Rule). length l ≤ suc (length rs)) (found r) (left_by found rs) (r ∷ left_by found rs)
    (λ e. omega (arith, left-few found rs))
    (λ e. omega (arith, left-few found rs))

pub left-same : (found other : Rule → Bool) (rs : List Rule) → ((r : Rule) → Memᴰ r rs → found r ≡ other r) → left_by found rs ≡ left_by other rs
unfolding left_by
left-same found other [] same = refl
left-same found other (r ∷ rs) same =
    let rest = left-same found other rs (λ q m. same q (Memᴰ.tail m)) in
    λ i. pick (same r (Memᴰ.head refl) i) (rest i) (r ∷ rest i)
