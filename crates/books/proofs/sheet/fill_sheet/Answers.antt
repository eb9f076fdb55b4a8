-- Each way out is that of the stage at which reading ends: every stage is read from where the stage before ends, over the same bytes.
use Prim.Native.Nat.{◌≤◌}
use mathlib.Core.Path.{◌≡◌, refl, sym, ap, ◌∙◌}
use native.Mathlib.Omega.{arith}
use lib.ListN.{length}
use Rattle.std.specs.Prelude.{Ok}
use Rattle.std.proofs.lemmas.Result.{err_from_is_err_and}
use Rattle.names.specs.Colours.{colours_of}
use Rattle.names.specs.ColoursRead.{ColoursRead}
use Rattle.names.specs.Number.{number_at}
use Rattle.names.specs.Read.{Value}
use Rattle.names.specs.Told.{told_list}
use Rattle.names.proofs.ReadingColours.{colours-places}
use Rattle.names.proofs.ToldInParts.{together, told-whole}
use Rattle.books.specs.Press.{greatest_of}
use Rattle.books.specs.Sheet.{refused_sheet}
use Rattle.books.specs.Size.{size_at}
use Rattle.books.specs.SizeRead.{By}
use Rattle.books.proofs.Following.{told-some, nothing-follows, something-follows}
use Rattle.books.proofs.SheetInParts.{list-refused, ticket-refused, size-refused, area-few, cells-refused, more-follows, sheet-read}
use Rattle.books.proofs.sheet.fill_sheet.Goals as goal
use Rattle.books.proofs.sheet.fill_sheet.Goals.{In_ok-colours, In_ok-ticket, In_ok-size}

listed : (c : In_ok-colours) → together (told_list (Ok c.in_ok-colours.field-0)) c.read_list.new.starts c.read_list.new.lens ≡ colours_of c.args.s.now
listed c = told-whole c.in_ok-colours.ensures

ticketed : (c : In_ok-ticket) → number_at c.args.s.now c.in_ok-colours.field-0.next ≡ Value c.in_ok-ticket.ticket c.number.new.self.at
ticketed c = sym c.in_ok-ticket.ensures.read

sized : (c : In_ok-size) → size_at c.args.s.now c.number.new.self.at (greatest_of c.args.press) ≡ By c.in_ok-size.size c.read.new.reader.at
sized c = rw (c.in_ok-ticket.ensures.same, c.greatest-most.ensures) at (sym c.in_ok-size.ensures.read)

pub returns-in_err-colours-clause-err : goal.returns-in_err-colours-clause-err
returns-in_err-colours-clause-err c =
    let e = err_from_is_err_and c.from_residual.result c.from_residual.ensures.1 in
    rw (e.1, e.2) (list-refused _ _ (told-whole c.in_err-colours.ensures) (told-some c.in_err-colours.field-0.0))

pub returns-in_err-ticket-clause-err : goal.returns-in_err-ticket-clause-err
returns-in_err-ticket-clause-err c =
    let e = err_from_is_err_and c.from_residual-in_err-ticket.result c.from_residual-in_err-ticket.ensures.1 in
    rw (e.1, e.2)
    (ticket-refused _ _ (listed (goal.at.returns-in_err-ticket-clause-err c).In_ok-colours) refl (sym c.in_err-ticket.ensures.read))

pub returns-in_err-size-clause-err : goal.returns-in_err-size-clause-err
returns-in_err-size-clause-err c =
    let p = goal.at.returns-in_err-size-clause-err c in
    let size = rw (c.in_ok-ticket.ensures.same, c.greatest-most.ensures) at (sym c.in_err-size.ensures.read) in
    let e = err_from_is_err_and c.from_residual-in_err-size.result c.from_residual-in_err-size.ensures.1 in
    rw (e.1, e.2) (size-refused _ _ (listed p.In_ok-colours) refl (ticketed p.In_ok-ticket) size)

pub overflow_mul-size : goal.overflow_mul-size
overflow_mul-size c =
    let p = goal.at.overflow_mul-size c in
    omega (arith, area-few _ _ (listed p.In_ok-colours) refl (ticketed p.In_ok-ticket) (sized p.In_ok-size))

pub read_cells-requires : goal.read_cells-requires
read_cells-requires c =
    let p = goal.at.read_cells-requires c in
    let few = ap (λ (r : ColoursRead). r.colours.count) (listed p.In_ok-colours) in (
      omega (arith, few, (colours-places c.args.s.now).few),
      area-few _ _ (listed p.In_ok-colours) refl (ticketed p.In_ok-ticket) (sized p.In_ok-size),
    )

pub returns-in_err-read_cells-clause-err : goal.returns-in_err-read_cells-clause-err
returns-in_err-read_cells-clause-err c =
    let p = goal.at.returns-in_err-read_cells-clause-err c in
    let filled = rw (c.in_ok-size.ensures.same, c.in_ok-ticket.ensures.same) at c.in_err-read_cells.ensures.read in
    let e = err_from_is_err_and c.from_residual-in_err-read_cells.result c.from_residual-in_err-read_cells.ensures.1 in
    rw (e.1, e.2)
    (cells-refused _ _ (listed p.In_ok-colours) refl (ticketed p.In_ok-ticket) (sized p.In_ok-size) c.args.cells.now filled (told-some c.in_err-read_cells.field-0.0))

pub returns-in_err-end-clause-err : goal.returns-in_err-end-clause-err
returns-in_err-end-clause-err c =
    let p = goal.at.returns-in_err-end-clause-err c in
    let filled = rw (c.in_ok-size.ensures.same, c.in_ok-ticket.ensures.same) at c.in_ok-read_cells.ensures.read in
    let end = rw (c.in_ok-read_cells.ensures.same, c.in_ok-size.ensures.same, c.in_ok-ticket.ensures.same) at c.in_err-end.ensures in
    let (more, is) = something-follows _ _ _ (told-some c.in_err-end.field-0.0) end in
    let e = err_from_is_err_and c.from_residual-in_err-end.result c.from_residual-in_err-end.ensures.1 in
    rw (e.1, e.2)
    (more-follows _ _ (listed p.In_ok-colours) refl (ticketed p.In_ok-ticket) (sized p.In_ok-size) c.args.cells.now filled refl more
    ∙ ap refused_sheet (sym is))

pub returns-clause-ok : goal.returns-clause-ok
returns-clause-ok c =
    let p = goal.at.returns-clause-ok c in
    let filled = rw (c.in_ok-size.ensures.same, c.in_ok-ticket.ensures.same) at c.in_ok-read_cells.ensures.read in
    let end = rw (c.in_ok-read_cells.ensures.same, c.in_ok-size.ensures.same, c.in_ok-ticket.ensures.same) at c.in_ok-end.ensures in
    let whole : length c.args.s.now ≤ c.read_cells.new.reader.at = omega (arith, nothing-follows _ _ end) in
    rw c.greatest-most.ensures
    (sheet-read _ _ (listed p.In_ok-colours) refl (ticketed p.In_ok-ticket) (sized p.In_ok-size) c.args.cells.now filled refl c.told-cells whole)
