-- The pieces are passed one after the other, from the first that is no cell on: what is left, done from here, is the whole, and so are the trials.
use mathlib.Core.Path.{◌≡◌, refl, sym, ap, ◌∙◌}
use Prim.Native.Nat.{ℕ, ◌+◌, ◌≤◌, ◌<◌}
use native.Mathlib.Nat.{lt_of_lt_of_le, le_of_eq}
use native.Mathlib.Omega.{arith}
use lib.ListN.{drop, length-set}
use Rattle.pieces.specs.Pieces.{pieces, total}
use Rattle.pieces.specs.Firing.{joins_fired}
use Rattle.pieces.specs.Filling.{joined_by}
use Rattle.pieces.specs.inner.Tally.{tally, tried_at, tried_by}
use Rattle.pieces.specs.declared.masks.Joined.{Joined}
use Rattle.pieces.proofs.CellsFirst.{slot-last-cell, cells-few}
use Rattle.pieces.proofs.FilledTable.{one-joined, all-joined}
use Rattle.pieces.proofs.MakingTrials.{one-tried, none_left, tried-fits}
use Rattle.pieces.proofs.masks.Masks.fill.Goals as goal
use Rattle.pieces.proofs.masks.Masks.fill.Goals.{In-loop-k}

due : (c : In-loop-k) → let z = c.args.size in c.loop-k.k < total z.rows z.cols
due c = lt_of_lt_of_le c.loop-k-test.true (le_of_eq c.count-end.ensures.0)

pub loop-k-init : goal.loop-k-init
unfolding joined_by tried_by
loop-k-init c =
    let r = c.requires.sizes in
    let e = c.times-k.ensures.0 in
    let nx = rw c.cell.ensures at c.next-p.ensures in
    let last = slot-last-cell c.args.size.rows c.args.size.cols r.rows_some r.cols_some in
    record {
      here = omega (arith, nx.one, last, e);
      inside = λ h. nx.still (omega (arith, nx.one, last, e));
      sized = refl;
      upto = omega (arith, e, cells-few c.args.size.rows c.args.size.cols r.rows_some r.cols_some);
      left = rw e refl;
      made = rw e (omega arith);
    }

-- one piece more: its trials are the next of those that are left
one_more : (c : In-loop-k) → let a = c.args in
    tally (tried_at a.self.now.joins) (drop c.loop-k.k (pieces a.size.rows a.size.cols))
    ≡ tried_at a.self.now.joins c.loop-k.p + tally (tried_at a.self.now.joins) (drop (c.loop-k.k + 1) (pieces a.size.rows a.size.cols))
one_more c =
    let a = c.args in
    let f = c.loop-k.invariant in
    one-tried a.self.now.joins a.size.rows a.size.cols c.loop-k.k c.loop-k.p (f.inside (due c)) f.here

pub entry_of-e-requires : goal.entry_of-e-requires
entry_of-e-requires c =
    let f = c.loop-k.invariant in
    let fit = c.args.self.now.fit in
    let fits = tried-fits c.args.self.now.joins c.args.size.rows c.args.size.cols c.requires.sizes fit.across_few fit.down_few in
    record {
      entries = omega (arith, f.sized, c.requires.entries);
      few = omega (arith, f.made, one_more (goal.at.entry_of-e-requires c).In-loop-k, fits);
    }

pub loop-k-preserved : goal.loop-k-preserved
loop-k-preserved c =
    let a = c.args in
    let f = c.loop-k.invariant in
    let nx = c.next-p-in-loop-k.ensures in
    let heads = ap (λ (x : Joined). x.heads) c.entry_of-e.ensures in
    record {
      here = nx.one ∙ ap (λ (x : ℕ). x + 1) f.here;
      inside = λ h. nx.still (omega (arith, nx.one, f.here));
      sized = simp length-set f.sized;
      upto = omega (arith, due (goal.at.loop-k-preserved c).In-loop-k);
      left = rw heads (sym (one-joined _ a.size.rows a.size.cols _ c.loop-k.k c.loop-k.p (f.inside (due (goal.at.loop-k-preserved c).In-loop-k)) f.here) ∙ f.left);
      made = omega (arith, f.made, one_more (goal.at.loop-k-preserved c).In-loop-k, ap (λ (x : Joined). x.trials) c.entry_of-e.ensures);
    }

pub returns : goal.returns
returns c =
    let a = c.args in
    let all : total a.size.rows a.size.cols ≤ c.loop-k.k = omega (arith, c.loop-k-test.false, c.count-end.ensures.0) in (
      sym (all-joined (joins_fired a.self.now.masks.now a.self.now.joins) a.size.rows a.size.cols _ c.loop-k.k all) ∙ c.loop-k.invariant.left,
      omega (arith, c.loop-k.invariant.made, none_left a.self.now.joins a.size.rows a.size.cols c.loop-k.k all),
    )
