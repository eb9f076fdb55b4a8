-- The bit is that of the definition, and the tree is that of the whole sheet, at every node of which a rule fits.
use mathlib.Core.Path.{◌≡◌, refl, sym, ◌∙◌}
use mathlib.Core.Bool.{true}
use Rattle.pieces.specs.inner.Seen.{whole_of, has_bit}
use Rattle.pieces.specs.inner.Verdict.{verdict}
use Rattle.pieces.proofs.Writing.{wrote-first}
use Rattle.pieces.proofs.choice.Chooser.judge.Goals as goal
use Rattle.pieces.proofs.choice.Chooser.judge.Goals.{Then-whole}

-- Where the test was taken: the start motif has its bit of the whole sheet.
marked : (c : Then-whole) → let a = c.args in has_bit a.self.now.table.size a.self.now.table.entries.now a.start (whole_of a.self.now.table.size) ≡ true
marked c = sym c.whole.ensures ∙ c.if-whole.true

pub returns-then-whole : goal.returns-then-whole
unfolding verdict
returns-then-whole c =
    rw (marked (goal.at.returns-then-whole c).Then-whole)
    (record { answers = refl; leaves = wrote-first (rw c.whole-piece.ensures at c.pick_node.ensures) })

pub returns : goal.returns
unfolding verdict
returns c =
    rw (sym c.whole.ensures ∙ c.if-whole.false) (record { answers = refl; leaves = refl })
