-- The cells stand first in the table, so that there is an entry for each; the three tests are made one after the other.
use Prim.Native.Nat.{ℕ, ◌*◌, ◌≤◌}
use mathlib.Core.Path.{refl, sym, ap, ◌∙◌}
use native.Mathlib.Omega.{arith}
use mathlib.Core.List.{List}
use lib.ListN.{length}
use lib.Seq.{length-take-le}
use Rattle.names.specs.Counted.{least}
use Rattle.books.specs.declared.size.Size.{Size}
use Rattle.books.proofs.Area.{within-room}
use Rattle.pieces.proofs.CellsFirst.{cells-few}
use Rattle.reasons.specs.Why.{piece_reason}
use Rattle.reasons.specs.inner.FromTable.{bare, PiecesHeld}
use Rattle.reasons.proofs.FirstBare.{bare-found, none-bare}
use Rattle.reasons.proofs.FromTables.{cell-found, size-found, piece-found}
use Rattle.reasons.proofs.why.reason.Goals as goal
use Rattle.reasons.proofs.why.reason.Goals.{In_default}

-- There is an entry for each cell.
held : {press : ℕ} {size : Size} {work : List ℕ} → PiecesHeld press size work → size.rows * size.cols ≤ length work
held {size = size} p = omega (arith, cells-few size.rows size.cols p.within.rows_some p.within.cols_some, p.held)

pub overflow_mul-cells : goal.overflow_mul-cells
overflow_mul-cells c = omega (arith, within-room c.args.press c.requires.within)

pub slice_bounds-first_bare-end : goal.slice_bounds-first_bare-end
slice_bounds-first_bare-end c = sym (length-take-le _ c.args.work.now (held c.requires))

pub returns-in-Some : goal.returns-in-Some
returns-in-Some c =
    let (is, low) = bare-found _ _ (held c.requires) c.in-Some.i (sym c.in-Some.is ∙ c.first_bare.ensures) in
    cell-found _ _ _ _ _ _ is low

-- Where no cell is bare.
passed : (c : In_default) → c.args.size.rows * c.args.size.cols ≤ least (bare c.args.work.now) 0 (c.args.size.rows * c.args.size.cols)
passed c = none-bare _ _ (held c.requires) (sym c.in_default.is ∙ c.first_bare.ensures)

pub returns-then-has_size : goal.returns-then-has_size
returns-then-has_size c =
    c.of_piece.ensures ∙ ap piece_reason c.largest.ensures
    ∙ piece-found _ _ _ _ _ _ refl (passed (goal.at.returns-then-has_size c).In_default) (sym c.has_size.ensures ∙ c.if-has_size.true)

pub returns : goal.returns
returns c = size-found _ _ _ _ _ _ refl (passed (goal.at.returns c).In_default) (sym c.has_size.ensures ∙ c.if-has_size.false)
