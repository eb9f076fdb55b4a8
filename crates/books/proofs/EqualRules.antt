-- Rules are equal exactly when their bytes are, since a rule is taken back from its bytes. So a strict reader, who gets past no rule that stood earlier, has read
-- rules of which none stands twice.
use mathlib.Core.Path.{◌≡◌, refl, sym, ◌∙◌, ap}
use mathlib.Core.Bool.{Bool, true, false, false≢true, true≢false}
use mathlib.Core.List.Memᴰ
use mathlib.Core.List.{List, [], ◌∷◌, ◌++◌, Memᴰ}
use mathlib.Core.Logic.{◌↔◌, ⊎_elim}
use Prim.Native.Nat.{ℕ}
use Rattle.names.specs.Pick.{and_then}
use Rattle.names.proofs.NothingTwice.{distinct_more, distinct-less, distinct-new}
use Rattle.names.proofs.Tests.{not-true-false, or-either, or_left, or_right}
use Rattle.names.proofs.SameNames.{same_name_lem}
use Rattle.books.specs.Equal.{bodied, four_of, same_rule, stands}
use Rattle.books.specs.Keeps.{NoCopies}
use Rattle.books.specs.ReadsBook.{Stood}
use Rattle.books.specs.RuleBytes.{kind_dir, rule_in}
use Rattle.books.specs.Rules.{repeats}
use Rattle.books.specs.declared.rule.Rule.{Rule}
use Rattle.books.specs.declared.rule.Body.{Body}
use Rattle.books.specs.declared.rule.Body.TheVariants.{Colour, Across, Down}

body_back : (a : ℕ) (x : Body) → rule_in (bodied a x) ≡ record { head = a; body = x }
unfolding rule_in kind_dir
body_back a (Colour c) = refl
body_back a (Across l r) = refl
body_back a (Down u v) = refl

pub rule-back : (r : Rule) → rule_in (four_of r) ≡ r
rule-back r = body_back r.head r.body

-- ── The test for equal rules ──

pub rule-same : (q r : Rule) → (same_rule q r ≡ true) ↔ (q ≡ r)
unfolding same_rule
rule-same q r = (
  λ e. sym (rule-back q) ∙ ap rule_in ((same_name_lem (four_of q) (four_of r)).0 e) ∙ rule-back r,
  λ p. (same_name_lem (four_of q) (four_of r)).1 (ap four_of p),
)

pub stands-back : (l : List Rule) (r : Rule) → stands l r ≡ true → Memᴰ r l
unfolding stands
stands-back [] r e = absurd (false≢true e)
stands-back (q ∷ l) r e =
    ⊎_elim (λ h. Memᴰ.head (sym ((rule-same q r).0 h))) (λ h. Memᴰ.tail (stands-back l r h)) (or-either (same_rule q r) _ e)

pub stands-forth : (l : List Rule) (r : Rule) → Memᴰ r l → stands l r ≡ true
unfolding stands
stands-forth [] r i = absurd (Memᴰ.not-nil i)
stands-forth (q ∷ l) r i =
    ⊎_elim
    (λ (e : r ≡ q). or_left (same_rule q r) _ ((rule-same q r).1 (sym e)))
    (λ u. or_right (same_rule q r) _ (stands-forth l r u))
    (Memᴰ.cases_cons i)

-- ── What a strict reader asks ──

pub repeats-back : (strict : Bool) (before : List Rule) (x : Rule) → repeats strict before x ≡ true → Stood strict before x
unfolding repeats and_then
repeats-back true before x e = stands-back before x e
repeats-back false before x e = false≢true e

pub repeats-forth : (strict : Bool) (before : List Rule) (x : Rule) → Stood strict before x → repeats strict before x ≡ true
unfolding repeats and_then
repeats-forth true before x m = stands-forth before x m
repeats-forth false before x m = absurd m

-- so that of what it has read nothing stands twice
pub copies-less : (strict : Bool) (xs ys : List Rule) → NoCopies strict (xs ++ ys) → NoCopies strict xs
copies-less true xs ys p = distinct-less xs ys p
copies-less false xs ys p = tt

pub copies-more : (strict : Bool) (xs : List Rule) (x : Rule) → NoCopies strict xs → repeats strict xs x ≡ false → NoCopies strict (xs ++ (x ∷ []))
unfolding repeats and_then
copies-more true xs x p e = distinct_more xs x p (λ m. true≢false (sym (stands-forth xs x m) ∙ e))
copies-more false xs x p e = tt

pub copies-new : (strict : Bool) (xs : List Rule) (x : Rule) (ys : List Rule) → NoCopies strict (xs ++ (x ∷ ys)) → repeats strict xs x ≡ false
unfolding repeats and_then
copies-new true xs x ys p = not-true-false (stands xs x) (λ e. distinct-new xs x ys p (stands-back xs x e))
copies-new false xs x ys p = refl

pub copies-none : (strict : Bool) → NoCopies strict []
copies-none true = tt
copies-none false = tt
