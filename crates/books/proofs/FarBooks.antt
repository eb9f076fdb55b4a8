-- A book is read or refused within 5,164 bytes, so that bytes farther on change nothing: each part is read where the one before it ends, and has its own bound.
use Prim.Native.Nat.{ℕ, zero, suc, ◌+◌, ◌*◌, ◌<◌, ◌≤◌}
use mathlib.Core.Path.{◌≡◌, refl, ap}
use mathlib.Core.Bool.{Bool}
use mathlib.Core.List.{List, ◌++◌}
use native.Mathlib.Omega.{arith}
use borrow.Author.Tests.{lt-ltb}
use lib.ListN.{length, take, set, length-append}
use Rattle.names.specs.Pick.{pick, fault}
use Rattle.names.specs.Onward.{ending}
use Rattle.names.specs.Number.{number_in, number_below}
use Rattle.names.specs.Colours.{colours_of}
use Rattle.names.specs.Fault.{Fault}
use Rattle.names.specs.declared.colours.Colours.{Colours}
use Rattle.names.proofs.ReadingNumbers.{number_in_lem, number_below_lem}
use Rattle.names.proofs.ReadingColours.{colours-lie}
use Rattle.names.proofs.FarBytes.{onward-same, faultless-same, number_in-far, number_below-far, colours-far}
use Rattle.books.specs.Rules.{colour_number_at, join_at, body_at, rule_at, refused_rules, after_rule, repeats, rules_from, rules_at}
use Rattle.books.specs.Book.{refused_book, figures_at, after_figures, ruled_at, figured_at, book_by}
use Rattle.books.specs.Keeps.{most_motifs, most_rules}
use Rattle.books.specs.declared.rule.Rule.{Rule}
use Rattle.books.specs.BodyRead.{Refused as RefusedBody}
use Rattle.books.specs.RuleRead.{RuleRead, Whole as WholeRule, Refused as RefusedRule}
use Rattle.books.specs.BookRead.{Figures, FiguresRead, Whole as WholeFigures, Refused as RefusedFigures}
use Rattle.books.proofs.ReadingRules.{rule-near, rules-lie}
use Rattle.books.proofs.ReadingFigures.{figures-lie}
use Rattle.books.proofs.ReadingBooks.{farthest_book}

-- what is read alike goes on alike
module _ {ℓ} {A : Type ℓ} (refuse : Fault → A) where
  after_rule-same : (r q : RuleRead) (go to : Rule → ℕ → A) → r ≡ q
      → ((x : Rule) (next : ℕ) → q ≡ WholeRule x next → go x next ≡ to x next) → after_rule refuse r go ≡ after_rule refuse q to
  after_rule-same r (WholeRule x next) go to e f = rw e (f x next refl)
  after_rule-same r (RefusedRule f) go to e g = rw e

  after_figures-same : (r q : FiguresRead) (go to : Figures → ℕ → A) → r ≡ q
      → ((g : Figures) (next : ℕ) → q ≡ WholeFigures g next → go g next ≡ to g next) → after_figures refuse r go ≡ after_figures refuse q to
  after_figures-same r (WholeFigures g next) go to e f = rw e (f g next refl)
  after_figures-same r (RefusedFigures f) go to e g = rw e

  -- bytes follow in both
  pub ending-same : (t u : List ℕ) (at : ℕ) (x y : A) → at < length t → ending refuse (t ++ u) at x ≡ ending refuse t at y
  ending-same t u at x y h = simp (lt-ltb at (length (t ++ u)) (omega (arith, length-append t u)), lt-ltb at (length t) h)

module _ (strict : Bool) (t u : List ℕ) where
  -- ── Rules ──

  colour-number-far : (at colours : ℕ) → at + 2 < length t → colour_number_at (t ++ u) at colours ≡ colour_number_at t at colours
  unfolding colour_number_at
  colour-number-far at colours h = rw (number_below-far t u at colours 6 h)

  join-far : (at kind motifs : ℕ) → at + 5 < length t → join_at (t ++ u) at kind motifs ≡ join_at t at kind motifs
  unfolding join_at
  join-far at kind motifs h =
      onward-same RefusedBody (number_below (t ++ u) at motifs 6) (number_below t at motifs 6) _ _ (number_below-far t u at motifs 6 (omega arith))
      (λ first next e. rw (number_below-far t u next motifs 6 (omega (arith, (number_below_lem t at motifs 6 first next e).near))))

  body-far : (at motifs colours : ℕ) → at + 8 < length t → body_at (t ++ u) at motifs colours ≡ body_at t at motifs colours
  unfolding body_at
  body-far at motifs colours h =
      onward-same RefusedBody (number_below (t ++ u) at 3 7) (number_below t at 3 7) _ _ (number_below-far t u at 3 7 (omega arith))
      (λ kind next e.
      let g = number_below_lem t at 3 7 kind next e in
      rw (colour-number-far next colours (omega (arith, g.near)), join-far next kind motifs (omega (arith, g.near))))

  rule-far : (at motifs colours : ℕ) → at + 11 < length t → rule_at (t ++ u) at motifs colours ≡ rule_at t at motifs colours
  unfolding rule_at
  rule-far at motifs colours h =
      onward-same RefusedRule (number_below (t ++ u) at motifs 6) (number_below t at motifs 6) _ _ (number_below-far t u at motifs 6 (omega arith))
      (λ head next e. rw (body-far next motifs colours (omega (arith, (number_below_lem t at motifs 6 head next e).near))))

  rules_from-far : (motifs colours k : ℕ) (rules : List Rule) (i at : ℕ) → at + 12 * k < length t
      → rules_from strict (t ++ u) motifs colours rules i at k ≡ rules_from strict t motifs colours rules i at k
  rules_from-far motifs colours zero rules i at h = refl
  rules_from-far motifs colours (suc k) rules i at h =
      after_rule-same refused_rules (rule_at (t ++ u) at motifs colours) (rule_at t at motifs colours) _ _ (rule-far at motifs colours (omega arith))
      (λ x next e. ap (pick (repeats strict (take i rules) x) (refused_rules (fault 18 at)))
      (rules_from-far motifs colours k (set rules i x) (i + 1) next (omega (arith, rule-near t at motifs colours x next e))))

  rules-far : (at motifs colours count : ℕ) → at + 12 * count < length t
      → rules_at strict (t ++ u) at motifs colours count ≡ rules_at strict t at motifs colours count
  unfolding rules_at
  rules-far at motifs colours count h = rules_from-far motifs colours count _ 0 at h

  -- ── Books ──

  figures-far : (at : ℕ) → at + 8 < length t → figures_at (t ++ u) at ≡ figures_at t at
  unfolding figures_at
  figures-far at h =
      onward-same RefusedFigures (number_in (t ++ u) at 1 most_motifs) (number_in t at 1 most_motifs) _ _ (number_in-far t u at 1 most_motifs (omega arith))
      (λ motifs next e.
      let g = number_in_lem t at 1 most_motifs motifs next e in
      onward-same RefusedFigures (number_below (t ++ u) next motifs 6) (number_below t next motifs 6) _ _ (number_below-far t u next motifs 6 (omega (arith, g.near)))
      (λ start then d. rw (number_in-far t u then 1 most_rules (omega (arith, g.near, (number_below_lem t next motifs 6 start then d).near)))))

  -- the rules are the same, and bytes follow them in both
  ruled-far : (c : Colours) (g : Figures) (at : ℕ) → g.count ≤ most_rules → at ≤ length t → at + 12 * most_rules < length t
      → ruled_at (t ++ u) c g (rules_at strict t at g.motifs c.count g.count) ≡ ruled_at t c g (rules_at strict t at g.motifs c.count g.count)
  unfolding ruled_at
  ruled-far c g at few inside h =
      faultless-same refused_book (rules_at strict t at g.motifs c.count g.count).fault _ _
      (λ z. ending-same refused_book t u (rules_at strict t at g.motifs c.count g.count).next _ _ (omega (arith, (rules-lie strict t at g.motifs c.count g.count few inside z).near)))

  figured-far : (c : Colours) (at : ℕ) → at + 9 + 12 * most_rules < length t → figured_at strict (t ++ u) c at ≡ figured_at strict t c at
  unfolding figured_at
  figured-far c at h =
      after_figures-same refused_book (figures_at (t ++ u) at) (figures_at t at) _ _ (figures-far at (omega arith))
      (λ g next e.
      let l = figures-lie t at g next e in
      rw (rules-far next g.motifs c.count g.count (omega (arith, l.near, l.rules_few)))
      (ruled-far c g next l.rules_few l.inside (omega (arith, l.near))))

  pub book-far : farthest_book < length t → book_by strict (t ++ u) ≡ book_by strict t
  unfolding book_by
  book-far h =
      rw (colours-far t u (omega arith))
      (faultless-same refused_book (colours_of t).fault _ _ (λ z. figured-far (colours_of t).colours (colours_of t).next (omega (arith, (colours-lie t z).near))))
