-- The cells are written one after the other.
use mathlib.Core.Path.{◌≡◌, ap, ◌∙◌}
use mathlib.Core.List.{List}
use Prim.Native.Nat.{ℕ, ◌+◌, ◌≤◌, ◌<◌}
use native.Mathlib.Omega.{arith}
use lib.ListN.{length, get_or, take, set, length-set}
use lib.Seq.{get_or-take, length-take-le}
use Rattle.books.proofs.NumberedCells.{one-numbered}
use Rattle.pieces.specs.Masks.{painters_from, colour_masks}
use Rattle.pieces.proofs.masks.Masks.paint_cells.Goals as goal
use Rattle.pieces.proofs.masks.Masks.paint_cells.Goals.{After-from}

-- a cell that is passed is one of so many
due : (count : ℕ) (colours : List ℕ) (i : ℕ) → count ≤ length colours → i < length (take count colours) → i < count
due count colours i all h = omega (arith, length-take-le count colours all)

-- the number of the cell's colour
colour : (c : After-from) → c.from.result ≡ get_or c.args.colours.now c.loop-i.i 0
colour c = c.from.ensures ∙ get_or-take c.args.count c.args.colours.now c.loop-i.i 0 (due _ _ _ c.requires.painted.all c.loop-i-test.true)

low : (c : After-from) → c.from.result < colour_masks
low c = omega (arith, colour c, c.requires.painted.low c.loop-i.i (due _ _ _ c.requires.painted.all c.loop-i-test.true))

pub loop-i-preserved : goal.loop-i-preserved
loop-i-preserved c =
    let a = c.args in
    let here = due _ _ _ c.requires.painted.all c.loop-i-test.true in
    let mask : ℕ → ℕ = λ k. get_or a.self.now.masks.now (painters_from + k) 0 in
    rw (colour (goal.at.loop-i-preserved c).After-from) (
      omega (arith, here),
      simp length-set c.loop-i.invariant.1,
      ap (λ (w : List ℕ). set w c.loop-i.i (mask (get_or a.colours.now c.loop-i.i 0))) c.loop-i.invariant.2
          ∙ one-numbered mask a.colours.now a.work.now c.loop-i.i (omega (arith, here, c.requires.painted.all)) (omega (arith, here, c.requires.room)),
    )
