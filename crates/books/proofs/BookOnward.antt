-- From what was read so far of a book reading goes on with the next number or rule, so that a book that has a fault is refused for it.
use Prim.Native.Nat.{ℕ, suc, ◌-◌, ◌≤◌}
use mathlib.Core.Path.{◌≡◌, refl, ◌∙◌}
use mathlib.Core.Bool.{Bool}
use mathlib.Core.List.{List, [], ◌∷◌}
use native.Mathlib.Omega.{arith}
use borrow.Author.Tests.{lt-ltb, ne_eqb}
use lib.ListN.{length}
use Rattle.names.specs.Pick.{fault}
use Rattle.names.specs.Onward.{onward}
use Rattle.names.specs.Number.{number_in, number_below}
use Rattle.names.specs.Colours.{colours_of}
use Rattle.names.specs.ReadsList.{ListRead}
use Rattle.names.specs.Fault.{Fault}
use Rattle.names.specs.declared.colours.Colours.{Colours}
use Rattle.names.proofs.ReadingNumbers.{number_in_lem}
use Rattle.names.proofs.Exactly.{number_in-exactly, number_below-exactly}
use Rattle.names.proofs.ListExactly.{list-first, list-read-exactly}
use Rattle.books.specs.Keeps.{NoCopies, most_motifs, most_rules}
use Rattle.books.specs.Rules.{no_rules, refused_rules, rules_from, rules_at}
use Rattle.books.specs.Book.{refused_book, figures_at, after_figures, ruled_at, figured_at, book_by}
use Rattle.books.specs.ReadsBook.{RuleStands, MotifsRead, motifs_read, StartRead, start_read, RulesSoFar, rules_so_far}
use Rattle.books.specs.ReadsBook.{BookFaultBy, no_list, no_motifs, no_start, no_count, no_rule, equal_rule, more_bytes}
use Rattle.books.specs.declared.rule.Rule.{Rule}
use Rattle.books.specs.BookRead.{Figures, FiguresRead, Whole, Refused, BookRead}
use Rattle.books.proofs.ReadingRules.{rule-refused}
use Rattle.books.proofs.EqualRules.{repeats-forth, copies-less, copies-new}
use Rattle.books.proofs.RulesHeld.{Held, held_more}
use Rattle.books.proofs.OneByOne.{in-turn-on}
use Rattle.books.proofs.RuleExactly.{rule-read-exactly, rule-refused-exactly}

-- ── What is left to read ──

-- the count of rules, and what stands before it
abbrev count_at : List ℕ → ℕ → ℕ → ℕ → FiguresRead
count_at s motifs start at = onward Refused (number_in s at 1 most_rules) (λ count end. Whole (record { motifs = motifs; start = start; count = count }) end)

abbrev start_at : List ℕ → ℕ → ℕ → FiguresRead
start_at s motifs at = onward Refused (number_below s at motifs 6) (λ start then. count_at s motifs start then)

abbrev pub figured : Bool → List ℕ → Colours → FiguresRead → BookRead
figured strict s c r = after_figures refused_book r (λ g next. ruled_at s c g (rules_at strict s next g.motifs c.count g.count))

-- so many rules, of so many motifs and colours, after those that were read
abbrev pub rules_left : Bool → List ℕ → Colours → Figures → ℕ → ℕ → List Rule → ℕ → ℕ → ℕ → BookRead
rules_left strict s c g motifs colours rules i at k = ruled_at s c g (rules_from strict s motifs colours rules i at k)

pub ruled-refused : (s : List ℕ) (c : Colours) (g : Figures) (f : Fault) → 1 ≤ f.number → ruled_at s c g (refused_rules f) ≡ refused_book f
unfolding ruled_at
ruled-refused s c g f some = rw (ne_eqb f.number 0 (λ q. omega arith))

-- ── What stands there is read ──

-- reading the book is reading what is left, with so many colours
record On (strict : Bool) (s : List ℕ) (colours : ℕ) (left : BookRead) : Type 0 where
  many : (colours_of s).colours.count ≡ colours
  on : book_by strict s ≡ left

-- ... from the rule after these on
record RulesOn (strict : Bool) (s : List ℕ) (colours motifs : ℕ) (before : List Rule) (at k : ℕ) : Type 0 where
  figures : Figures
  rules : List Rule
  held : Held before rules
  on : book_by strict s ≡ rules_left strict s (colours_of s).colours figures motifs colours rules (length before) at k

module _ (strict : Bool) (s : List ℕ) (colours : ℕ) where
  abbrev c : Colours
  c = (colours_of s).colours

  list_on : (at : ℕ) → ListRead s colours at → On strict s colours (figured strict s c (figures_at s at))
  unfolding book_by figured_at
  list_on at l =
      let e = (list-read-exactly s colours at).1 l in
      record { many = e.1; on = rw (e.0, e.2) }

  motifs-on : (motifs at : ℕ) → MotifsRead s colours motifs at → On strict s colours (figured strict s c (start_at s motifs at))
  unfolding figures_at
  motifs-on motifs at (motifs_read from l h) =
      let o = list_on from l in
      record { many = o.many; on = o.on ∙ rw ((number_in-exactly s from 1 most_motifs _).1 h) }

  start-on : (motifs at : ℕ) → StartRead s colours motifs at → (start : ℕ) × On strict s colours (figured strict s c (count_at s motifs start at))
  start-on motifs at (start_read from start m h) =
      let o = motifs-on motifs from m in
      (start, record { many = o.many; on = o.on ∙ rw ((number_below-exactly s from motifs 6 _).1 h) })

  rules-on : (motifs count at : ℕ) (rules : List Rule) → RulesSoFar strict s colours motifs count rules at → length rules ≤ count
      → RulesOn strict s colours motifs rules at (count - length rules)
  unfolding rules_at
  rules-on motifs count at rules (rules_so_far from first st h r once) few =
      let o = start-on motifs from st in
      let g : Figures = record { motifs = motifs; start = o.0; count = count } in
      let count_read = (number_in-exactly s from 1 most_rules _).1 h in
      let whole : book_by strict s ≡ rules_left strict s c g motifs colours no_rules 0 first count = rw (o.1.on, count_read, o.1.many) in
      let most = (number_in_lem s from 1 most_rules count first count_read).high in
      let left = in-turn-on (RuleStands s motifs colours) (NoCopies strict) Held (rules_left strict s c g motifs colours) count
      (λ xs ys x less. held_more xs ys x (omega arith)) (λ xs x. copies-less strict xs (x ∷ []))
      (λ xs ys p k x next held new w.
      rw ((rule-read-exactly s motifs colours p x next).1 w, held.begins, copies-new strict xs x [] new))
      (book_by strict s) no_rules first (record { all = refl; begins = refl }) whole r once few in
      record { figures = g; rules = left.places; held = left.held; on = left.on }

pub fault-is : (strict : Bool) (s : List ℕ) (f : Fault) → BookFaultBy strict s f → book_by strict s ≡ refused_book f
unfolding book_by figures_at ruled_at
fault-is strict s f (no_list h) =
    let some = (list-first s).some f h in
    rw (((list-first s).exactly f some).1 h, ne_eqb f.number 0 (λ q. omega arith))
fault-is strict s f (no_motifs colours at l h) = (list_on strict s colours at l).on ∙ rw ((number_in-exactly s at 1 most_motifs _).1 h)
fault-is strict s f (no_start colours motifs at m h) = (motifs-on strict s colours motifs at m).on ∙ rw ((number_below-exactly s at motifs 6 _).1 h)
fault-is strict s f (no_count colours motifs at st h) = (start-on strict s colours motifs at st).1.on ∙ rw ((number_in-exactly s at 1 most_rules _).1 h)
fault-is strict s f (no_rule colours motifs count at before r more h) =
    let o = rules-on strict s colours motifs count at before r (omega arith) in
    let left : count - length before ≡ suc (count - length before - 1) = omega arith in
    let e = (rule-refused-exactly s motifs colours at f).1 h in
    o.on ∙ rw (left, e) (ruled-refused s (colours_of s).colours o.figures f (rule-refused s at motifs colours f e).some)
fault-is strict s f (equal_rule colours motifs count at next before x r more h stood e) =
    let o = rules-on strict s colours motifs count at before r (omega arith) in
    let left : count - length before ≡ suc (count - length before - 1) = omega arith in
    o.on ∙ rw (left, (rule-read-exactly s motifs colours at x next).1 h, o.held.begins, repeats-forth strict before x stood, e)
    (ruled-refused s (colours_of s).colours o.figures (fault 18 at) (omega arith))
fault-is strict s f (more_bytes colours motifs count at rules r all more e) =
    let none : count - length rules ≡ 0 = omega arith in
    (rules-on strict s colours motifs count at rules r (omega arith)).on ∙ rw (none, lt-ltb at (length s) more, e)
