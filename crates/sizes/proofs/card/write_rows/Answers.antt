-- After i turns the first i rows stand at the front of the slice, and their bits are counted.
use mathlib.Core.Path.{◌≡◌, refl, sym}
use Prim.Native.Nat.{◌+◌, ◌-◌, ◌*◌, ◌≤◌}
use native.Mathlib.Omega.{arith}
use lib.Count.{ones}
use Rattle.names.specs.Counted.{each}
use Rattle.sizes.specs.Card.{set_bits}
use Rattle.sizes.specs.inner.Rows.{row_of, row_in, rows_of}
use Rattle.sizes.proofs.CardRows.{row-ones, row-long, one_written, one-counted, all-written}
use Rattle.sizes.proofs.Slots.{row_more}
use Rattle.sizes.proofs.card.write_rows.Goals as goal
use Rattle.sizes.proofs.card.write_rows.Goals.{After-row-r, In-loop-i}

pub loop-i-init : goal.loop-i-init
unfolding set_bits rows_of each
loop-i-init c = record { few = omega arith; counted = refl; written = refl }

pub loop-i-preserved : goal.loop-i-preserved
loop-i-preserved c =
    let m = c.args.most in
    let i = c.loop-i.i in
    let t = c.args.sizes.now in
    let inv = c.loop-i.invariant in
    let wide : i * m + m - i * m ≡ m = omega arith in
    let is : c.row-r.result ≡ row_of (row_in t m i) c.args.start = rw wide at c.row-r.ensures in
    let bits : ones c.row-r.result ≤ m = rw is (omega (arith, row-ones (row_in t m i) c.args.start, row-long t m c.args.start i m (omega arith) c.requires.entries_all)) in
    record {
      few = omega (arith, bits, row_more i m);
      counted = rw (is, inv.counted) (sym (one-counted _ _ _ _));
      written = rw (is, inv.written) (one_written _ _ _ _ _ (omega (arith, c.requires.room_enough, c.loop-i-test.true)));
    }

pub returns : goal.returns
returns c =
    let e : c.loop-i.i ≡ c.args.most = omega arith in
    all-written _ _ _ _ _ _ _ e c.loop-i.invariant.counted c.loop-i.invariant.written
