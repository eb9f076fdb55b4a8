-- After j turns the row's first j bits stand.
use mathlib.Core.Path.{◌≡◌, refl, sym}
use Prim.Native.Nat.{◌+◌, ◌*◌, ◌%◌, ◌^◌, ◌<◌}
use native.Mathlib.Nat.{lt_of_lt_of_le}
use native.Mathlib.Omega.{arith}
use lib.ListN.{length, get_or}
use lib.Pow.{shl_exact, pow_mono}
use Rattle.names.specs.Bits.{bit, bits}
use Rattle.names.proofs.Bits.{bit-lt}
use Rattle.sizes.specs.inner.Rows.{row_of}
use Rattle.sizes.proofs.CardRows.{row_up_to, row_more, row_lt}
use Rattle.sizes.proofs.card.row.Goals as goal
use Rattle.sizes.proofs.card.row.Goals.{In-loop-j}

pub loop-j-init : goal.loop-j-init
unfolding row_up_to bits
loop-j-init c = refl

-- The bit that is due, in its place, makes one bit more of the row.
due : (c : In-loop-j) → let g = c.args in
    c.loop-j.found + (bit (get_or g.entries.now c.loop-j.j 0) g.start * 2 ^ c.loop-j.j) % 2 ^ 32 ≡ row_up_to g.entries.now g.start (c.loop-j.j + 1)
due c =
    let g = c.args in
    let x = bit (get_or g.entries.now c.loop-j.j 0) g.start in
    let low : x < 2 = bit-lt _ _ in
    rw (shl_exact {a = x} 1 c.loop-j.j 32 (omega arith) (omega (arith, c.loop-j-test.true)), c.loop-j.invariant) (sym (row_more _ _ _ low))

due-lt : (c : In-loop-j) → let g = c.args in
    c.loop-j.found + (bit (get_or g.entries.now c.loop-j.j 0) g.start * 2 ^ c.loop-j.j) % 2 ^ 32 < 2 ^ 32
due-lt c =
    rw (due c) (lt_of_lt_of_le (row_lt _ _ (c.loop-j.j + 1)) (pow_mono {j = 32} (omega (arith, c.loop-j-test.true))))

pub overflow_add-found : goal.overflow_add-found
unfolding bit
overflow_add-found c = omega (arith, due-lt (goal.at.overflow_add-found c).In-loop-j)

pub loop-j-preserved : goal.loop-j-preserved
unfolding bit
loop-j-preserved c = due (goal.at.loop-j-preserved c).In-loop-j

pub returns : goal.returns
unfolding row_of row_up_to
returns c = let e : c.loop-j.j ≡ length c.args.entries.now = omega arith in rw (← e) c.loop-j.invariant
