-- At each turn of the loop the cells that are left, read from here on, give what reading them all gives.
use Prim.Native.Nat.{◌<◌}
use mathlib.Core.Path.{◌∙◌, sym}
use native.Mathlib.Omega.{arith}
use lib.ListN.{length, drop}
use lib.Seq.{length-take-le}
use Rattle.std.proofs.lemmas.List.{set-append_left}
use Rattle.names.proofs.Count.{left-suc}
use Rattle.books.proofs.cells.read_cells.Goals as goal

pub loop-cell-preserved : goal.loop-cell-preserved
loop-cell-preserved c =
    let l = c.loop-cell in
    let a = c.args in
    let inside : l.cell-index < length l.own = omega arith in
    let left : l.cell-index < a.count = omega (arith, length-take-le a.count a.cells.now (omega arith)) in
    let cell = rw l.invariant.same at (sym c.in_ok-cell.ensures.read) in
    record {
      left = rw (sym (set-append_left l.own (drop a.count a.cells.now) l.cell-index c.in_ok-cell.field-0 inside)) (simp (left-suc a.count l.cell-index left, cell) at l.invariant.left);
      same = c.read_listed.ensures.same ∙ l.invariant.same;
    }
