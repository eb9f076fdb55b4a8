-- Each colour of the second list is looked for in the first: held, it has its number there, and lacked, it is listed after all before it.
use mathlib.Core.Path.{◌≡◌, refl}
use mathlib.Core.List.{[], ◌∷◌}
use native.Mathlib.Omega.{arith}
use lib.ListN.{length, length-append}
use Rattle.std.proofs.lemmas.List.{length-take}
use Rattle.names.specs.Colours.{name_in, find_name}
use Rattle.families.proofs.MergingLists.{so_far-none, so_far-held, so_far-new, so_far-all}
use Rattle.families.proofs.Numbered.{Goes, goes, Turned, turned, ended}
use Rattle.families.proofs.lent.LentBook.merged.Goals as goal
use Rattle.families.proofs.lent.LentBook.merged.Goals.{After-into_iter-i-iterator, In-Some}

-- the loop goes over places and lengths side by side, numbered
begun : (c : After-into_iter-i-iterator) → let list = c.args.second.now.family.now.colours in Goes list.count list.starts list.lens c.into_iter-i-iterator.result
begun c =
    rw c.into_iter-i-iterator.ensures.into_iter_gives
    (goes _ _ _ _
    (rw (c.enumerate-i-items.ensures.source, c.zip-places.ensures.first) c.iter.ensures.rest)
    (rw c.enumerate-i-items.ensures.source c.zip-places.ensures.second.0)
    c.enumerate-i-items.ensures.count)

turn : (c : In-Some) → let list = c.args.second.now.family.now.colours in Goes list.count list.starts list.lens c.into_iter-i-iterator.result
    → Turned list.count list.starts list.lens (length c.loop-i.yielded) c.in-Some.i c.in-Some.start.now c.in-Some.len.now
turn c from =
    let list = c.args.second.now.family.now.colours in
    turned list.count list.starts list.lens (omega (arith, length-take list.count list.starts)) (omega (arith, length-take list.count list.lens)) c.into_iter-i-iterator.result c.loop-i.i-iterator c.next.new.self c.next.result c.loop-i.yielded from c.loop-i.yielded_by
    (c.in-Some.i, (c.in-Some.start, c.in-Some.len)) c.in-Some.is (rw c.in-Some.is c.in-Some.ensures.steps)

pub loop-i-init : goal.loop-i-init
loop-i-init c = rw c.no_colours-more.ensures (so_far-none _ _ _ _ c.args.self.now.lent.lists c.args.second.now.lent.lists _ refl)

pub loop-i-preserved-in-Some-find_name : goal.loop-i-preserved-in-Some-find_name
loop-i-preserved-in-Some-find_name c =
    let f = c.args.self.now in
    let g = c.args.second.now in
    let k = length c.loop-i.yielded in
    let here = goal.at.loop-i-preserved-in-Some-find_name c in
    let at = turn here.In-Some (begun here.After-into_iter-i-iterator) in
    let looked : c.in-Some-find_name.found ≡ find_name f.bytes.now f.family.now.colours (name_in g.bytes.now g.family.now.colours k) =
    rw (← at.start_is, ← at.len_is, ← c.tail.ensures.holds, ← c.front-name.ensures.holds) (rw c.in-Some-find_name.is at c.find_name.ensures.found) in
    rw (length-append c.loop-i.yielded ((c.in-Some.i, (c.in-Some.start, c.in-Some.len)) ∷ []), at.number)
    (so_far-held _ f.family.now.colours _ g.family.now.colours f.lent.lists g.lent.lists k _ _ at.below c.loop-i.invariant _ looked (rw c.in-Some-find_name.is at c.find_name.ensures.inside))

pub loop-i-preserved : goal.loop-i-preserved
loop-i-preserved c =
    let f = c.args.self.now in
    let g = c.args.second.now in
    let k = length c.loop-i.yielded in
    let here = goal.at.loop-i-preserved c in
    let at = turn here.In-Some (begun here.After-into_iter-i-iterator) in
    let looked : f.family.now.colours.count ≡ find_name f.bytes.now f.family.now.colours (name_in g.bytes.now g.family.now.colours k) =
    rw (← at.start_is, ← at.len_is, ← c.tail.ensures.holds, ← c.front-name.ensures.holds) (rw c.in-None-find_name.is at c.find_name.ensures.found) in
    rw (length-append c.loop-i.yielded ((c.in-Some.i, (c.in-Some.start, c.in-Some.len)) ∷ []), at.number, at.start_is, at.len_is)
    (so_far-new _ f.family.now.colours _ g.family.now.colours f.lent.lists g.lent.lists k _ _ at.below c.loop-i.invariant _ looked (omega arith))

pub returns : goal.returns
returns c =
    let f = c.args.self.now in
    let g = c.args.second.now in
    let list = g.family.now.colours in
    let all = ended list.count list.starts list.lens (omega (arith, length-take list.count list.starts)) (omega (arith, length-take list.count list.lens)) c.into_iter-i-iterator.result c.loop-i.i-iterator c.next.new.self c.next.result c.loop-i.yielded
    (begun (goal.at.returns c).After-into_iter-i-iterator) c.loop-i.yielded_by c.in-None.is (rw c.in-None.is c.in-None.ensures.steps) in
    so_far-all _ f.family.now.colours _ list f.lent.lists g.lent.lists _ _ (rw all at c.loop-i.invariant)
