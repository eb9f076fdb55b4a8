-- What is made anew by any masks in any slice: where there is room for the table, the masks fit and the sheet has the cell, the entries of the pieces with the cell; and
-- else nothing.
use Prim.Native.Nat.{ℕ, ◌≤◌, ◌<◌}
use mathlib.Core.Path.{◌≡◌}
use mathlib.Core.Bool.{true, false}
use mathlib.Core.List.{List}
use mathlib.Core.Logic.{◌↔◌}
use borrow.Author.Tests.{ltb-true, lt-ltb}
use lib.ListN.{length}
use Rattle.names.proofs.Settled.{Settles, settles}
use Rattle.names.proofs.Tests.{and_both, and-make}
use Rattle.books.specs.Size.{Within}
use Rattle.books.specs.declared.size.Size.{Size}
use Rattle.pieces.specs.Firing.{joins_fired, fitting}
use Rattle.pieces.specs.Most.{most}
use Rattle.pieces.specs.Pieces.{total}
use Rattle.pieces.specs.Refill.{refilled, due_by, refills?, refilled_by}
use Rattle.pieces.specs.declared.masks.Joins.{Joins}
use Rattle.pieces.proofs.LookedThrough.{fits-room, room_fits}

-- all that is tested
pub record Refills (s : Size) (entries masks : ℕ) (j : Joins) (row column : ℕ) : Type 0 where
  pub sizes : Within most s.rows s.cols
  pub room : total s.rows s.cols ≤ entries
  pub fits : fitting masks j ≡ true
  pub row_on : row < s.rows
  pub column_on : column < s.cols

pub refills-exactly : (s : Size) (entries masks : ℕ) (j : Joins) (row column : ℕ) → (refills? s entries masks j row column ≡ true) ↔ Refills s entries masks j row column
unfolding refills?
refills-exactly s entries masks j row column = (
  λ e.
      let (table, u) = and_both _ _ e in
      let (fits, v) = and_both _ _ u in
      let (x, y) = and_both _ _ v in
      let (sizes, room) = fits-room s.rows s.cols entries table in
      record { sizes = sizes; room = room; fits = fits; row_on = ltb-true _ _ x; column_on = ltb-true _ _ y },
  λ h. and-make _ _ (room_fits s.rows s.cols entries h.sizes h.room) (and-make _ _ h.fits (and-make _ _ (lt-ltb _ _ h.row_on) (lt-ltb _ _ h.column_on))),
)

module _ (masks : List ℕ) (j : Joins) (s : Size) (row column paint : ℕ) (t : List ℕ) where
  -- where everything fits, each piece with the cell gets what is due to it
  pub all_made : refills? s (length t) (length masks) j row column ≡ true
      → refilled_by masks j s row column paint t ≡ refilled (due_by (joins_fired masks j) paint s.rows s.cols) s.rows s.cols row column t
  unfolding refilled_by
  all_made e = simp e

  pub none_made : refills? s (length t) (length masks) j row column ≡ false → refilled_by masks j s row column paint t ≡ t
  unfolding refilled_by
  none_made e = simp e

  pub refill-settled : Settles (refilled_by masks j s row column paint t)
  refill-settled = settles (refilled_by masks j s row column paint t)
