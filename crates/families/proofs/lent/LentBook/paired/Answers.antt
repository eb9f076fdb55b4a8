-- What the pairing adds is made and counted before the rules are put together, and the draft of them is one of the combination.
use Prim.Native.Nat.{◌+◌, ◌≤◌}
use mathlib.Core.Path.{◌≡◌, sym, ◌∙◌, ap}
use mathlib.Core.List.{map}
use native.Mathlib.Omega.{arith}
use Rattle.books.specs.Keeps.{most_rules}
use Rattle.families.specs.inner.Combined.{raised_rules, first_adds}
use Rattle.families.specs.inner.Gathered.{standing, raised_by}
use Rattle.families.proofs.Testing.{counts-within}
use Rattle.families.proofs.DraftsOfTwo.{first_new, adds_fit, raised-count, pair-counted, gathered-drafts}
use Rattle.families.proofs.lent.LentBook.paired.Goals as goal
use Rattle.families.proofs.lent.LentBook.paired.Goals.{After-raised-raised, After-first_adds-copied, After-second_adds-added, After-counts_within, Then-counts_within}

-- the second book's rules, raised
risen : (c : After-raised-raised) → let f = c.args.self.now.family.now in let g = c.args.second.now.family.now in
    standing c.raised-raised.result ≡ raised_rules f g c.merged-merged.result.numbers
risen c = c.raised-raised.ensures ∙ ap (map (raised_by c.args.self.now.family.now.motifs c.merged-merged.result.numbers)) c.rules.ensures.is

-- what is added from the first family
from_first : (c : After-first_adds-copied) → let f = c.args.self.now in let g = c.args.second.now in
    standing c.first_adds-copied.result ≡ first_new f.bytes.now g.bytes.now f.family.now g.family.now c.merged-merged.result f.lent g.lent c.merged-merged.ensures c.args.pairing
from_first c =
    let f = c.args.self.now.family.now in
    c.first_adds-copied.ensures ∙ ap (first_adds c.args.pairing f.start (f.motifs + c.args.second.now.family.now.motifs)) c.rules-rules.ensures.is

pub second_adds-added-requires : goal.second_adds-added-requires
second_adds-added-requires c =
    let f = c.args.self.now in
    let g = c.args.second.now in
    let at = goal.at.second_adds-added-requires c in
    rw (from_first at.After-first_adds-copied, risen at.After-raised-raised)
    (adds_fit f.bytes.now g.bytes.now f.family.now g.family.now c.merged-merged.result f.lent g.lent c.merged-merged.ensures c.args.pairing)

room : (c : Then-counts_within) → c.args.self.now.family.now.count + c.args.second.now.family.now.count + (c.first_adds-copied.result.count + c.second_adds-added.result.count) ≤ most_rules
room c = (counts-within _ _ _ (sym c.counts_within.ensures ∙ c.if-counts_within.true)).2

pub extend-requires : goal.extend-requires
extend-requires c =
    let f = c.args.self.now in
    let g = c.args.second.now in
    let at = goal.at.extend-requires c in
    let raised = raised-count f.bytes.now g.bytes.now f.family.now g.family.now c.merged-merged.result f.lent g.lent c.merged-merged.ensures c.args.pairing
    c.raised-raised.result c.first_adds-copied.result c.second_adds-added.result (risen at.After-raised-raised) (from_first at.After-first_adds-copied) c.second_adds-added.ensures in
    omega (arith, room at.Then-counts_within, raised, c.rules-rules.ensures.so_many)

pub extend-requires-then-counts_within : goal.extend-requires-then-counts_within
extend-requires-then-counts_within c =
    let f = c.args.self.now in
    let g = c.args.second.now in
    let at = goal.at.extend-requires-then-counts_within c in
    let raised = raised-count f.bytes.now g.bytes.now f.family.now g.family.now c.merged-merged.result f.lent g.lent c.merged-merged.ensures c.args.pairing
    c.raised-raised.result c.first_adds-copied.result c.second_adds-added.result (risen at.After-raised-raised) (from_first at.After-first_adds-copied) c.second_adds-added.ensures in
    omega (arith, room at.Then-counts_within, raised, c.rules-rules.ensures.so_many, c.extend.ensures.so_many)

pub extend-requires-then-counts_within-2 : goal.extend-requires-then-counts_within-2
extend-requires-then-counts_within-2 c =
    let f = c.args.self.now in
    let g = c.args.second.now in
    let at = goal.at.extend-requires-then-counts_within-2 c in
    let raised = raised-count f.bytes.now g.bytes.now f.family.now g.family.now c.merged-merged.result f.lent g.lent c.merged-merged.ensures c.args.pairing
    c.raised-raised.result c.first_adds-copied.result c.second_adds-added.result (risen at.After-raised-raised) (from_first at.After-first_adds-copied) c.second_adds-added.ensures in
    omega (arith, room at.Then-counts_within, raised, c.rules-rules.ensures.so_many, c.extend.ensures.so_many, c.extend-then-counts_within.ensures.so_many)

pub returns-then-counts_within : goal.returns-then-counts_within
returns-then-counts_within c =
    let f = c.args.self.now in
    let g = c.args.second.now in
    let at = goal.at.returns-then-counts_within c in
    let counted = pair-counted f.bytes.now g.bytes.now f.family.now g.family.now c.merged-merged.result f.lent g.lent c.merged-merged.ensures c.args.pairing
    c.raised-raised.result c.first_adds-copied.result c.second_adds-added.result (risen at.After-raised-raised) (from_first at.After-first_adds-copied) c.second_adds-added.ensures in
    rw c.draft.ensures
    (gathered-drafts f.bytes.now g.bytes.now f.family.now g.family.now c.merged-merged.result f.lent g.lent c.merged-merged.ensures c.args.pairing
    c.raised-raised.result c.first_adds-copied.result c.second_adds-added.result (risen at.After-raised-raised) (from_first at.After-first_adds-copied) c.second_adds-added.ensures
    c.extend-then-counts_within-2.new.self
    (rw (c.extend-then-counts_within-2.ensures.is, c.extend-then-counts_within.ensures.is, c.extend.ensures.is, c.rules-rules.ensures.is))
    (counted ∙ sym c.counts_within.ensures ∙ c.if-counts_within.true))

pub returns-else-counts_within : goal.returns-else-counts_within
returns-else-counts_within c =
    let f = c.args.self.now in
    let g = c.args.second.now in
    let at = goal.at.returns-else-counts_within c in
    let counted = pair-counted f.bytes.now g.bytes.now f.family.now g.family.now c.merged-merged.result f.lent g.lent c.merged-merged.ensures c.args.pairing
    c.raised-raised.result c.first_adds-copied.result c.second_adds-added.result (risen at.After-raised-raised) (from_first at.After-first_adds-copied) c.second_adds-added.ensures in
    counted ∙ sym c.counts_within.ensures ∙ c.if-counts_within.false
