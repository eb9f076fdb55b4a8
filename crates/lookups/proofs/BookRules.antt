-- What the look-up of a rule answers, from the bytes of the lent book. Every part of a rule that was read fits a byte, so that division takes the number
-- apart again; and the number is 0 exactly where nothing is found, since a rule has 1 above its parts.
use Prim.Native.Nat.{ℕ, ◌≤◌, ◌<◌}
use mathlib.Core.Path.{◌≡◌, refl, ap, ◌∙◌}
use mathlib.Core.List.{List}
use mathlib.Core.Logic.{◌↔◌, ◌⊎◌, inr, ⊎_elim}
use native.Mathlib.Nat.{eq-zero-or-pos}
use native.Mathlib.Omega.{arith}
use borrow.Author.Tests.{lt-ltb, le-ltb}
use lib.ListN.{length, get_or}
use lib.Seq.{get_or-take, length-take-le}
use Rattle.names.proofs.Tests.{lt-or-le}
use Rattle.books.specs.Book.{book_of}
use Rattle.books.specs.Lent.{contents_of}
use Rattle.books.specs.Rules.{no_rule}
use Rattle.books.specs.declared.rule.Rule.{Rule}
use Rattle.books.proofs.ReadingBooks.{book-lies, book-refused, book-size, book-count}
use Rattle.books.proofs.RulesApart.{RuleApart, rule-apart}
use Rattle.lookups.specs.Book.{RuleFound, There, Missing, rule_with, rule_of, packed_found, rule_shown}

-- no rule has the number 0
packed-missing : (r : RuleFound) → packed_found r ≡ 0 → r ≡ Missing
packed-missing (There r) e = absurd (omega arith)
packed-missing Missing e = refl

-- ── A rule of a book ──

module _ (s : List ℕ) where
  -- the rules of the contents; a refused book has none
  abbrev pub rules : List Rule
  rules = (contents_of s).rules

  refused-rules : ((book_of s).fault.number ≡ 0 → ⊥) → length rules ≡ 0
  refused-rules d = rw (book-refused s d).empty

  -- only an accepted book has rules
  has-rules : 0 < length rules → (book_of s).fault.number ≡ 0
  has-rules h = ⊎_elim (λ z. z) (λ p. absurd (omega (arith, refused-rules (λ z. omega arith)))) (eq-zero-or-pos (book_of s).fault.number)

  pub rules-count : length rules ≡ (book_of s).family.count
  rules-count = length-take-le (book_of s).family.count (book_of s).family.rules (omega (arith, book-count s, book-size s))

  module _ (k : ℕ) where
    pub found : k < length rules → rule_of s k ≡ There (get_or rules k no_rule)
    unfolding rule_with
    found h = rw (lt-ltb k (length rules) h)

    pub missing : length rules ≤ k → rule_of s k ≡ Missing
    unfolding rule_with
    missing h = rw (le-ltb k (length rules) h)

    -- the same by the count and the places of the family that was read
    pub found-read : k < (book_of s).family.count → rule_of s k ≡ There (get_or (book_of s).family.rules k no_rule)
    found-read h = found (omega (arith, rules-count)) ∙ ap There (get_or-take (book_of s).family.count (book_of s).family.rules k no_rule h)

    pub missing-read : (book_of s).family.count ≤ k → rule_of s k ≡ Missing
    missing-read h = missing (omega (arith, rules-count))

    -- there is none exactly where the book is refused or the number is not below the count of its rules
    pub missing-exactly : (rule_of s k ≡ Missing) ↔ (((book_of s).fault.number ≡ 0 → ⊥) ⊎ (length rules ≤ k))
    missing-exactly = (
      λ e. ⊎_elim (λ h. let z : ◌≡◌ {A = ℕ} 0 1 = cc (found h) in absurd (omega arith)) inr (lt-or-le k (length rules)),
      ⊎_elim (λ d. missing (omega (arith, refused-rules d))) missing,
    )

    -- the number shown of an accepted book's rule, taken apart, is the rule with that number of the contents
    pub rule_shown_lem : (book_of s).fault.number ≡ 0 → k < length rules → RuleApart (get_or rules k no_rule) (rule_shown s k)
    rule_shown_lem z h =
        let lies = book-lies s z in
        let low : k < (book_of s).family.count = omega (arith, rules-count) in
        rw (found-read low, get_or-take (book_of s).family.count (book_of s).family.rules k no_rule low)
        (rule-apart _ _ _ (omega (arith, lies.motifs_few)) (omega (arith, lies.places.few)) (lies.rules_fit k low))

    -- it is 0 exactly where there is none, and not 0 exactly where there is one
    pub no_rule-exactly : (rule_shown s k ≡ 0) ↔ (((book_of s).fault.number ≡ 0 → ⊥) ⊎ (length rules ≤ k))
    no_rule-exactly = (λ e. missing-exactly.0 (packed-missing (rule_of s k) e), λ x. rw (missing-exactly.1 x))

    pub rule-exactly : (rule_shown s k ≡ 0 → ⊥) ↔ (((book_of s).fault.number ≡ 0) × (k < length rules))
    rule-exactly = (
      λ d. ⊎_elim (λ h. (has-rules (omega arith), h)) (λ h. absurd (d (no_rule-exactly.1 (inr h)))) (lt-or-le k (length rules)),
      λ x e. omega (arith, (rule_shown_lem x.0 x.1).one_above),
    )
