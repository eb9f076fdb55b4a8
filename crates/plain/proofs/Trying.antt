-- One rule after the other, and one cut after the other: what is tried settles the search or leaves it to what is left.
use Rattle.std.proofs.Common.{ℕ, zero, suc, ◌+◌, ◌-◌, ◌≤◌, ◌<◌, ◌≡◌, Bool, true, false, List, length, get_or, drop, eqb, refl, ◌∙◌, add-one, arith}
use borrow.Author.Tests.{eq-eqb, ne_eqb}
use lib.ListN.{drop_of_length-le}
use lib.Seq.{drop-cons}
use mathlib.Core.Bool.{true≢false}
use Rattle.names.specs.Pick.{and_then, or_else}
use Rattle.names.proofs.Tests.{and-on, and-off, and-make, or_left}
use Rattle.books.specs.Rules.{no_rule}
use Rattle.books.specs.Search.{Cutting, any_cut, fits_body, any_rule}
use Rattle.books.specs.declared.rule.Dir.{Dir}
use Rattle.books.specs.declared.rule.Rule.{Rule}
use Rattle.books.specs.declared.size.Size.{Size}
use Rattle.books.proofs.Searches.{search-step}
use Rattle.pieces.specs.OnSheet.{on_sheet}
use Rattle.pieces.specs.declared.piece.Piece.{Piece}
use Rattle.pieces.proofs.ComingApart.{bulk, pieces-lessen}
use Rattle.plain.specs.inner.Search.{found}

or-on : (t : Bool) (k : Unit {0} → Bool) → t ≡ false → or_else t k ≡ k tt
unfolding or_else
or-on true k e = absurd (true≢false e)
or-on false k e = refl

module _ {X : Type 0} (c : Cutting X) (t : ℕ → X → Bool) where
  -- ── Rules ──

  -- the rules from the i-th on
  abbrev pub from : ℕ → X → List Rule → ℕ → Bool
  from a x rules i = any_rule c t a x (drop i rules)

  module _ (a : ℕ) (x : X) (rules : List Rule) (i : ℕ) (below : i < length rules) where
    abbrev rule : Rule
    rule = get_or rules i no_rule

    abbrev tried : Bool
    tried = and_then (eqb rule.head a) (λ _. fits_body c t x rule.body)

    here : from a x rules i ≡ or_else tried (λ _. from a x rules (i + 1))
    unfolding any_rule
    here = rw (add-one, drop-cons rules i no_rule below)

    pub rule_found : rule.head ≡ a → fits_body c t x rule.body ≡ true → from a x rules i ≡ true
    rule_found e f = here ∙ or_left tried (λ _. from a x rules (i + 1)) (and-make _ _ (eq-eqb _ _ e) f)

    pub rule-unfit : rule.head ≡ a → fits_body c t x rule.body ≡ false → from a x rules i ≡ from a x rules (i + 1)
    rule-unfit e f = here ∙ or-on tried (λ _. from a x rules (i + 1)) (and-on _ _ (eq-eqb _ _ e) ∙ f)

    pub other_head : (rule.head ≡ a → ⊥) → from a x rules i ≡ from a x rules (i + 1)
    other_head n = here ∙ or-on tried (λ _. from a x rules (i + 1)) (and-off _ _ (ne_eqb _ _ n))

  pub rules-passed : (a : ℕ) (x : X) (rules : List Rule) (i : ℕ) → length rules ≤ i → from a x rules i ≡ false
  unfolding any_rule
  rules-passed a x rules i h = rw (drop_of_length-le rules h)

  -- ── Cuts ──

  module _ (d : Dir) (l r : ℕ) (x : X) where
    pub cut-found : (k : ℕ) → 1 ≤ k → t l (c.first d k x) ≡ true → t r (c.rest d k x) ≡ true → any_cut c t d l r x k ≡ true
    unfolding any_cut
    cut-found zero h e f = absurd (omega arith)
    cut-found (suc k) h e f = or_left _ _ (and-make _ _ e f)

    pub cut-passed : (k : ℕ) → 1 ≤ k → and_then (t l (c.first d k x)) (λ _. t r (c.rest d k x)) ≡ false → any_cut c t d l r x k ≡ any_cut c t d l r x (k - 1)
    unfolding any_cut
    cut-passed zero h e = absurd (omega arith)
    cut-passed (suc k) h e = let less : suc k - 1 ≡ k = omega arith in rw less (or-on _ _ e)

    pub cuts-passed : (k : ℕ) → k ≤ 0 → any_cut c t d l r x k ≡ false
    unfolding any_cut
    cuts-passed zero h = refl
    cuts-passed (suc k) h = absurd (omega arith)

-- ── The pieces of a sheet ──

pub found-step : (rules : List Rule) (s : Size) (cells : List ℕ) (a : ℕ) (q : Piece)
    → found rules s cells a q ≡ any_rule (on_sheet s cells) (found rules s cells) a q rules
unfolding found
found-step rules s cells a q = search-step (on_sheet s cells) rules bulk (pieces-lessen s cells) a q
