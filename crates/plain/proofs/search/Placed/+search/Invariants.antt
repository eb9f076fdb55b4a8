-- The rows and columns of the piece go down at each cut; a motif is asked before a rule, and a rule before its cuts. The rules from here on settle the search,
-- and the cuts from here down whether a piece comes apart.
use Rattle.std.proofs.Common.{◌≡◌, ◌+◌, ◌-◌, ◌*◌}
use Rattle.books.specs.Search.{any_cut}
use Rattle.pieces.specs.OnSheet.{on_sheet}
use Rattle.pieces.specs.Parts.{reach}
use Rattle.pieces.proofs.ComingApart.{bulk}
use Rattle.plain.specs.inner.Search.{found}
use Rattle.plain.proofs.Trying.{from}
use Rattle.plain.proofs.search.Placed.+search.Given as goal

abbrev pub decreases-derives : goal.decreases-derives
decreases-derives l = 3 * bulk l.self.piece + 2

abbrev pub decreases-fits : goal.decreases-fits
decreases-fits l = 3 * bulk l.self.piece + 1

abbrev pub decreases-comes_apart : goal.decreases-comes_apart
decreases-comes_apart l = 3 * bulk l.self.piece

abbrev pub invariant-derives-loop-rule : goal.invariant-derives-loop-rule
invariant-derives-loop-rule l =
    let s = l.self.sheet.now in
    let t = found s.rules.now s.size s.cells.now in
    from (on_sheet s.size s.cells.now) t l.motif l.self.piece s.rules.now l.rule-index ≡ t l.motif l.self.piece

abbrev pub invariant-comes_apart-loop-k : goal.invariant-comes_apart-loop-k
invariant-comes_apart-loop-k l =
    let s = l.self.sheet.now in
    let t = found s.rules.now s.size s.cells.now in
    let c = on_sheet s.size s.cells.now in
    any_cut c t l.d l.first l.second l.self.piece (l.k - 1) ≡ any_cut c t l.d l.first l.second l.self.piece (reach l.d l.self.piece - 1)
