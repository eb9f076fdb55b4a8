-- The pieces are passed in the order of the table, each with the entry at its slot.
use Rattle.std.specs.Iterator.Adapters.{zip_first, zip_second}
use Rattle.std.specs.Slice.Iter.{iter_rest}
use Rattle.pieces.specs.Largest.{marked}
use Rattle.pieces.specs.inner.Left.{pieces_left}
use Rattle.pieces.proofs.Searching.{Looking}
use Rattle.pieces.proofs.cut.Table.largest.Given as goal

abbrev pub invariant-loop-piece : goal.invariant-loop-piece
invariant-loop-piece l =
    goal.iterator-loop-piece.can_next l.piece-iterator × goal.iterator-loop-piece.is_finite l.piece-iterator
    × Looking (marked l.self.size.rows l.self.size.cols l.self.entries.now l.motif) l.self.size.rows l.self.size.cols l.self.entries.now l.best l.area
    (pieces_left (zip_first l.piece-iterator)) (iter_rest (zip_second l.piece-iterator))
