-- The two tests are those of the definition.
use Prim.Native.Nat.{◌≤◌}
use borrow.Author.Tests.{lt-ltb, le-ltb}
use Rattle.pieces.specs.Pieces.{total}
use Rattle.pieces.specs.inner.Verdict.{lacking}
use Rattle.pieces.proofs.derive.lack.Goals as goal
use Rattle.pieces.proofs.derive.lack.Goals.{Else-entries-count}

pub returns-then-entries-count : goal.returns-then-entries-count
unfolding lacking
returns-then-entries-count c =
    let a = c.args in
    rw (lt-ltb a.entries (total a.size.rows a.size.cols) (rw c.count.ensures.0 at c.if-entries-count.true))

-- After the first test was not taken: the work slice is long enough.
enough : (c : Else-entries-count) → let a = c.args in total a.size.rows a.size.cols ≤ a.entries
enough c = rw c.count.ensures.0 at c.if-entries-count.false

pub returns-then-numbers : goal.returns-then-numbers
unfolding lacking
returns-then-numbers c =
    let short = rw c.numbers.ensures at c.if-numbers.true in
    rw (le-ltb _ _ (enough (goal.at.returns-then-numbers c).Else-entries-count), lt-ltb _ _ short)

pub returns : goal.returns
unfolding lacking
returns c =
    let tree = rw c.numbers.ensures at c.if-numbers.false in
    rw (le-ltb _ _ (enough (goal.at.returns c).Else-entries-count), le-ltb _ _ tree)
