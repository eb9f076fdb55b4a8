-- The pieces are passed one after the other, from the first that is no cell on: what is left, done from here, is the whole, and so are the trials.
use mathlib.Core.Path.{◌≡◌}
use mathlib.Core.List.{List}
use Prim.Native.Nat.{ℕ, ◌+◌, ◌-◌, ◌≤◌, ◌<◌}
use lib.ListN.{length, drop}
use Rattle.pieces.specs.Pieces.{Inside, pieces, total, slot_of}
use Rattle.pieces.specs.Firing.{joins_fired}
use Rattle.pieces.specs.Filling.{joined_from, joined_by}
use Rattle.pieces.specs.inner.Tally.{tally, tried_at, tried_by}
use Rattle.pieces.specs.declared.masks.Joins.{Joins}
use Rattle.pieces.specs.declared.piece.Piece.{Piece}
use Rattle.pieces.proofs.masks.Masks.fill.Given as goal

-- p is the piece that is due, and k its slot
pub record Filling (masks : List ℕ) (joins : Joins) (m n : ℕ) (before t : List ℕ) (p : Piece) (k trials : ℕ) : Type 0 where
  pub here : slot_of m n p ≡ k
  pub inside : k < total m n → Inside m n p
  pub sized : length t ≡ length before
  pub upto : k ≤ total m n
  pub left : joined_from (joins_fired masks joins) m n (drop k (pieces m n)) t ≡ joined_by (joins_fired masks joins) m n before
  pub made : trials + tally (tried_at joins) (drop k (pieces m n)) ≡ tried_by joins m n

abbrev pub invariant-loop-k : goal.invariant-loop-k
invariant-loop-k l = Filling l.self.masks.now l.self.joins l.size.rows l.size.cols l.initial.work l.work l.p l.k l.trials

abbrev pub decreases-loop-k : goal.decreases-loop-k
decreases-loop-k l = l.end - l.k
