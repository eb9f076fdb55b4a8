-- The counts are tested before the rules are put together, and the draft of them is one of the combination.
use Prim.Native.Nat.{ℕ, ◌+◌, ◌≤◌}
use mathlib.Core.Path.{◌≡◌, sym, ◌∙◌, ap}
use mathlib.Core.List.{List}
use native.Mathlib.Omega.{arith}
use Rattle.books.specs.ContentsIn.{contents_in}
use Rattle.books.specs.Keeps.{most_rules}
use Rattle.families.specs.Combine.{copies, repeated}
use Rattle.families.specs.Limits.{counts_within?, within_limits?}
use Rattle.families.specs.inner.Gathered.{standing}
use Rattle.families.specs.inner.Lent.{rules_of}
use Rattle.families.proofs.AddingRules.{so_many}
use Rattle.families.proofs.Testing.{counts-within}
use Rattle.families.proofs.Drafts.{repeated-test, repeated-drafts}
use Rattle.families.proofs.lent.LentBook.repeated.Goals as goal
use Rattle.families.proofs.lent.LentBook.repeated.Goals.{After-copies-copied, After-counts_within, Then-counts_within}

copied : (c : After-copies-copied) → let f = c.args.self.now.family.now in standing c.copies-copied.result ≡ copies f.motifs f.start (rules_of f)
copied c = let f = c.args.self.now.family.now in c.copies-copied.ensures ∙ ap (copies f.motifs f.start) c.rules-rules.ensures.is

tested : (c : After-counts_within) → standing c.copies-copied.result ≡ copies c.args.self.now.family.now.motifs c.args.self.now.family.now.start (rules_of c.args.self.now.family.now)
    → (s : List ℕ) → c.counts_within.result ≡ within_limits? (repeated c.args.way (contents_in s c.args.self.now.family.now))
tested c are s =
    let f = c.args.self.now.family.now in
    c.counts_within.ensures
    ∙ ap (λ (n : ℕ). counts_within? f.colours.count (f.motifs + 1) (f.count + n + 1)) (so_many c.copies-copied.result are)
    ∙ sym (repeated-test s s f c.args.self.now.lent.fitted.sized c.args.way)

room : (c : Then-counts_within) → c.args.self.now.family.now.count + c.copies-copied.result.count + 1 ≤ most_rules
room c = (counts-within _ _ _ (sym c.counts_within.ensures ∙ c.if-counts_within.true)).2

pub extend-requires : goal.extend-requires
extend-requires c = omega (arith, room (goal.at.extend-requires c).Then-counts_within, c.rules-rules.ensures.so_many)

pub push-requires : goal.push-requires
push-requires c = omega (arith, room (goal.at.push-requires c).Then-counts_within, c.rules-rules.ensures.so_many, c.extend.ensures.so_many)

pub returns-then-counts_within : goal.returns-then-counts_within
returns-then-counts_within c s t =
    let book = c.args.self.now in
    let f = book.family.now in
    let at = goal.at.returns-then-counts_within c in
    let are = copied at.After-copies-copied in
    rw (c.draft.ensures, c.no_colours.ensures)
    (repeated-drafts s t f book.lent.fitted.sized c.args.way c.push.new.self
    (rw (c.push.ensures.is, c.extend.ensures.is, are, c.rules-rules.ensures.is, c.join_rule.ensures))
    (sym (tested at.After-counts_within are s) ∙ c.if-counts_within.true))

pub returns-else-counts_within : goal.returns-else-counts_within
returns-else-counts_within c s t =
    let at = goal.at.returns-else-counts_within c in
    sym (tested at.After-counts_within (copied at.After-copies-copied) s) ∙ c.if-counts_within.false
