-- What the two readers of a book have in common: they differ only where the strict one gives 18. Each goes on with the next rule as the other does, up to a rule
-- that repeats an earlier one.
use Prim.Native.Nat.{ℕ, zero, suc, ◌+◌}
use mathlib.Core.Path.{◌≡◌, refl, ap}
use mathlib.Core.Bool.{true, false}
use mathlib.Core.List.{List}
use mathlib.Core.Logic.{◌⊎◌, inl, inr, ⊎_elim}
use native.Mathlib.Omega.{arith}
use borrow.Author.Tests.{ne_eqb}
use lib.Dec.{eqb}
use lib.ListN.{take, set}
use Rattle.names.specs.Pick.{pick, and_then, fault}
use Rattle.names.specs.Colours.{colours_of}
use Rattle.names.specs.Fault.{Fault}
use Rattle.names.specs.declared.colours.Colours.{Colours}
use Rattle.names.proofs.Picking.{pick_ind}
use Rattle.names.proofs.Tests.{true-or-false}
use Rattle.books.specs.Book.{refused_book, figures_at, after_figures, ruled_at, figured_at, book_by, book_of, untidy_of, IsBook}
use Rattle.books.specs.ContentsIn.{contents_in}
use Rattle.books.specs.Lent.{contents_by, contents_of}
use Rattle.books.specs.Rules.{rule_at, after_rule, refused_rules, repeats, rules_from, rules_at}
use Rattle.books.specs.declared.rule.Rule.{Rule}
use Rattle.books.specs.RuleRead.{RuleRead, Whole as WholeRule, Refused as RefusedRule, RulesRead}
use Rattle.books.specs.BookRead.{Figures, FiguresRead, Whole, Refused, BookRead}

-- ── Rules ──

-- the strict one finds what the other finds, or 18
abbrev AlikeRules : RulesRead → RulesRead → Type 0
AlikeRules strict other = (strict ≡ other) ⊎ (strict.fault.number ≡ 18)

after_rule_lem : (r : RuleRead) (go to : Rule → ℕ → RulesRead) → ((x : Rule) (next : ℕ) → AlikeRules (go x next) (to x next))
    → AlikeRules (after_rule refused_rules r go) (after_rule refused_rules r to)
after_rule_lem (WholeRule x next) go to h = h x next
after_rule_lem (RefusedRule f) go to h = inl refl

one-rule : (before : List Rule) (x : Rule) (at : ℕ) (r q : RulesRead) → AlikeRules r q
    → AlikeRules (pick (repeats true before x) (refused_rules (fault 18 at)) r) (pick (repeats false before x) (refused_rules (fault 18 at)) q)
unfolding repeats and_then
one-rule before x at r q alike =
    pick_ind (λ (z : RulesRead). AlikeRules z q) (repeats true before x) (refused_rules (fault 18 at)) r (λ _. inr refl) (λ _. alike)

module _ (s : List ℕ) (motifs colours : ℕ) where
  rules-alike : (k : ℕ) (rules : List Rule) (i at : ℕ) → AlikeRules (rules_from true s motifs colours rules i at k) (rules_from false s motifs colours rules i at k)
  rules-alike zero rules i at = inl refl
  rules-alike (suc k) rules i at =
      after_rule_lem (rule_at s at motifs colours) _ _ (λ x next. one-rule (take i rules) x at _ _ (rules-alike k (set rules i x) (i + 1) next))

-- ── Books ──

abbrev pub Alike : BookRead → BookRead → Type 0
Alike strict other = (strict ≡ other) ⊎ (strict.fault.number ≡ 18)

module _ (s : List ℕ) (c : Colours) where
  after-rules : (g : Figures) (r q : RulesRead) → AlikeRules r q → Alike (ruled_at s c g r) (ruled_at s c g q)
  unfolding ruled_at
  after-rules g r q (inl e) = inl (ap (ruled_at s c g) e)
  after-rules g r q (inr e) = inr (rw (ne_eqb r.fault.number 0 (λ z. omega arith)) e)

  after_figures_lem : (f : FiguresRead) (go to : Figures → ℕ → BookRead) → ((g : Figures) (next : ℕ) → Alike (go g next) (to g next))
      → Alike (after_figures refused_book f go) (after_figures refused_book f to)
  after_figures_lem (Whole g next) go to h = h g next
  after_figures_lem (Refused f) go to h = inl refl

  figured-alike : (at : ℕ) → Alike (figured_at true s c at) (figured_at false s c at)
  unfolding figured_at rules_at
  figured-alike at = after_figures_lem (figures_at s at) _ _ (λ g next. after-rules g _ _ (rules-alike s g.motifs c.count g.count _ 0 next))

pub books-alike : (s : List ℕ) → Alike (book_of s) (untidy_of s)
unfolding book_by
books-alike s =
    ⊎_elim
    (λ (e : eqb (colours_of s).fault.number 0 ≡ true). rw e (figured-alike s (colours_of s).colours (colours_of s).next))
    (λ (e : eqb (colours_of s).fault.number 0 ≡ false). rw e (inl refl))
    (true-or-false (eqb (colours_of s).fault.number 0))

-- where the strict one accepts, the other gives the same
pub accepted-alike : (s : List ℕ) → IsBook s → book_of s ≡ untidy_of s
accepted-alike s fine = ⊎_elim (λ e. e) (λ e. absurd (omega (arith, ap (λ (f : Fault). f.number) fine))) (books-alike s)

pub contents-alike : (s : List ℕ) → IsBook s → contents_of s ≡ contents_by false s
contents-alike s fine = ap (λ (r : BookRead). contents_in s r.family) (accepted-alike s fine)
