-- What is kept is what was read, and the rules of an accepted book fit their masks.
use Rattle.std.proofs.Common.{rules}
use Rattle.std.proofs.lemmas.Result.{err_from_is_err_and}
use Rattle.pieces.proofs.AskingSheets.{read-split, refused-split}
use Rattle.pieces.proofs.Deriving.{rows-small, byte_start}
use Rattle.pieces.proofs.asking.split_book.Goals as goal

pub overflow_cast-result : goal.overflow_cast-result
overflow_cast-result c = let h = byte_start c.args.book.now c.in_ok-family.ensures in search rules

pub lay-joins-requires : goal.lay-joins-requires
lay-joins-requires c = rw c.rules.ensures (rows-small c.args.book.now c.in_ok-family.ensures)

pub returns-in_err-family : goal.returns-in_err-family
returns-in_err-family c =
    let e = err_from_is_err_and c.from_residual.result c.from_residual.ensures.1 in
    rw (e.1, e.2) (refused-split c.args.book.now c.args.masks.now _ c.in_err-family.ensures)

pub returns : goal.returns
returns c =
    let a = c.args in
    read-split a.book.now a.masks.now c.in_ok-family.ensures (rw c.rules.ensures at c.lay-joins.ensures)
