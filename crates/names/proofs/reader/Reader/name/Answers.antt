-- The name is the front of what is left, and is read up to its first byte that may not stand in it.
use mathlib.Core.Path.{◌≡◌, sym, ◌∙◌}
use native.Mathlib.Omega.{arith}
use lib.ListN.{take, drop, length-drop}
use Rattle.names.specs.inner.Walks.{first_unshown}
use Rattle.names.proofs.ReadingNames.{name-bad}
use Rattle.names.proofs.Walks.{name_bad-by-walk, name_ends-by-walk, name_whole-by-walk}
use Rattle.names.proofs.reader.Reader.name.Goals as goal
use Rattle.names.proofs.reader.Reader.name.Goals.{After-first_unshown}

-- the walk is over the front of what is left
walked : (c : After-first_unshown) → c.first_unshown.result ≡ first_unshown c.args.len (take c.args.len (drop c.args.self.now.at c.args.self.now.bytes.now))
walked c = rw (← c.tail.ensures.holds, ← c.front-name.ensures.holds) c.first_unshown.ensures

pub overflow_add-start : goal.overflow_add-start
overflow_add-start c =
    let rest = drop c.args.self.now.at c.args.self.now.bytes.now in
    let bad = name_bad-by-walk rest c.args.len c.in-Some.k (sym (walked (goal.at.overflow_add-start c).After-first_unshown) ∙ c.in-Some.is) in
    omega (arith, name-bad rest c.args.len c.in-Some.k bad, c.well_formed, length-drop c.args.self.now.at c.args.self.now.bytes.now)

pub returns-in-Some-clause-read : goal.returns-in-Some-clause-read
returns-in-Some-clause-read c =
    rw (name_bad-by-walk _ c.args.len c.in-Some.k (sym (walked (goal.at.returns-in-Some-clause-read c).After-first_unshown) ∙ c.in-Some.is), c.at.ensures)

pub returns-then-name-len-clause-read : goal.returns-then-name-len-clause-read
returns-then-name-len-clause-read c =
    let short = rw (c.front-name.ensures.holds, c.tail.ensures.holds) at c.if-name-len.true in
    rw (name_ends-by-walk _ c.args.len (sym (walked (goal.at.returns-then-name-len-clause-read c).After-first_unshown) ∙ c.in_default.is) short, c.ends_early.ensures)

pub returns-clause-read : goal.returns-clause-read
returns-clause-read c =
    let enough = rw (c.front-name.ensures.holds, c.tail.ensures.holds) at c.if-name-len.false in
    rw (name_whole-by-walk _ c.args.len (sym (walked (goal.at.returns-clause-read c).After-first_unshown) ∙ c.in_default.is) enough)
