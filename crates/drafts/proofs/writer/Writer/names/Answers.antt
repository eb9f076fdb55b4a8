-- The name that is written next is that of the place and the length which the loop has come to.
use Prim.Native.Nat.{◌<◌, ◌≤◌}
use mathlib.Core.Path.{◌≡◌}
use mathlib.Core.List.{[], ◌∷◌}
use native.Mathlib.Omega.{arith}
use lib.ListN.{length, get_or, take, length-append}
use lib.Seq.{get_or-take, take_all, length-take-le}
use Rattle.std.proofs.lemmas.Slice.Zip.{zip_turn, zip_end}
use Rattle.names.specs.Colours.{names_in}
use Rattle.names.proofs.ReadingColours.{name-at, names-count}
use Rattle.drafts.specs.inner.Wrote.{Wrote, spell_name}
use Rattle.drafts.proofs.InARow.{names-turn, wrote_nothing, wrote-next}
use Rattle.drafts.proofs.writer.Writer.names.Goals as goal
use Rattle.drafts.proofs.writer.Writer.names.Goals.{After-into_iter-start-iterator}

-- places and lengths as the loop begins
begun : (c : After-into_iter-start-iterator) → let list = c.args.c.now in let r = c.into_iter-start-iterator.result in
    (r.a.rest.now ≡ take list.count list.starts) × (r.b.rest.now ≡ take list.count list.lens)
begun c =
    rw c.into_iter-start-iterator.ensures.into_iter_gives (rw c.zip-start-items.ensures.first c.iter.ensures.rest, c.zip-start-items.ensures.second.0)

pub loop-start-init : goal.loop-start-init
loop-start-init c = wrote_nothing c.args.self.now

pub loop-start-preserved : goal.loop-start-preserved
loop-start-preserved c =
    let s = c.args.s.now in
    let list = c.args.c.now in
    let names = names_in s list in
    let i = length c.loop-start.yielded in
    let from = begun (goal.at.loop-start-preserved c).After-into_iter-start-iterator in
    let turn = zip_turn _ _ c.loop-start.yielded c.into_iter-start-iterator.result c.loop-start.start-iterator c.next.new.self c.next.result from.0 from.1
    c.loop-start.yielded_by (c.in-Some.start, c.in-Some.len) c.in-Some.is (rw c.in-Some.is c.in-Some.ensures.steps) in
    let below : i < list.count = omega (arith, turn.0, length-take-le list.count list.starts (omega arith)) in
    let part : c.front.result.now ≡ get_or names i [] =
    rw (name-at s list i below, c.front.ensures.holds, c.tail.ensures.holds, turn.2 0, turn.3 0, get_or-take list.count list.starts i 0 below, get_or-take list.count list.lens i 0 below) in
    let named : Wrote c.loop-start.self (spell_name (get_or names i [])) c.name.new.self = rw part at c.name.ensures in
    rw (length-append c.loop-start.yielded ((c.in-Some.start, c.in-Some.len) ∷ []))
    (wrote-next names-turn names i [] (omega (arith, below, names-count s list)) (omega arith) c.loop-start.invariant named)

pub returns : goal.returns
returns c =
    let s = c.args.s.now in
    let list = c.args.c.now in
    let i = length c.loop-start.yielded in
    let from = begun (goal.at.returns c).After-into_iter-start-iterator in
    let end = zip_end _ _ c.loop-start.yielded c.into_iter-start-iterator.result c.loop-start.start-iterator c.next.new.self c.next.result from.0 from.1
    c.loop-start.yielded_by c.in-None.is (rw c.in-None.is c.in-None.ensures.steps) in
    let all : length (names_in s list) ≤ i =
    omega (arith, end, names-count s list, length-take-le list.count list.starts (omega arith), length-take-le list.count list.lens (omega arith)) in
    rw (take_all i (names_in s list) all) at c.loop-start.invariant
