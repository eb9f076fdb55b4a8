-- The pieces are passed in the order of the table, each with the entry at its slot.
use Rattle.std.proofs.Common.{arith, rules}
use mathlib.Core.Logic.{inl, inr, ⊎_elim}
use Rattle.pieces.proofs.Searching.{look-start, look-inside, look-takes, look-leaves, look-end}
use Rattle.pieces.proofs.cut.Table.largest.Goals as goal

pub loop-piece-init : goal.loop-piece-init
loop-piece-init c =
    let second = c.zip-piece-items.ensures.second in
    (search rules, search rules, rw (c.into_iter-piece-iterator.ensures.into_iter_gives, c.zip-piece-items.ensures.first, c.new.ensures, second.0) (look-start _ _ _ _))

pub area_with-other-requires : goal.area_with-other-requires
area_with-other-requires c =
    let room = c.args.self.now.tabled.sizes in
    let i = look-inside _ _ c.args.motif c.loop-piece.invariant.2 (c.in-Some.ensures.steps).0 (c.in-Some.ensures.steps).1 in
    (omega (arith, i, room), omega (arith, i, room))

pub loop-piece-preserved : goal.loop-piece-preserved
loop-piece-preserved c =
    (search rules, search rules, look-leaves _ _ c.args.motif c.loop-piece.invariant.2 (c.in-Some.ensures.steps).0 (c.in-Some.ensures.steps).1 c.area_with-other.ensures c.if-area-other.false)

pub loop-piece-preserved-then-area-other : goal.loop-piece-preserved-then-area-other
loop-piece-preserved-then-area-other c =
    (search rules, search rules, look-takes _ _ c.args.motif c.loop-piece.invariant.2 (c.in-Some.ensures.steps).0 (c.in-Some.ensures.steps).1 c.area_with-other.ensures c.if-area-other.true)

pub returns : goal.returns
returns c = let h = c.in-None.ensures.steps in look-end _ _ c.args.motif c.loop-piece.invariant.2 c.args.self.now.tabled.entries (⊎_elim (λ q. inl q.1.0) (λ q. inr q.1.0) h)
