-- A sheet of a press is read or refused within so many bytes that bytes farther on change nothing: each part is read where the one before it ends, and has its own bound.
use Prim.Native.Nat.{ℕ, zero, suc, ◌+◌, ◌*◌, ◌<◌, ◌≤◌}
use mathlib.Core.Path.{◌≡◌, refl}
use mathlib.Core.List.{List, ◌++◌}
use native.Mathlib.Omega.{arith}
use lib.ListN.{length, set}
use Rattle.names.specs.Onward.{onward}
use Rattle.names.specs.Number.{number_at, number_in, number_below}
use Rattle.names.specs.Colours.{colours_of}
use Rattle.names.specs.Fault.{Fault}
use Rattle.names.specs.declared.colours.Colours.{Colours}
use Rattle.names.proofs.ReadingNumbers.{number-lies, number_in_lem, number_below_lem}
use Rattle.names.proofs.ReadingColours.{colours-lie}
use Rattle.names.proofs.FarBytes.{onward-same, faultless-same, number-far, number_in-far, number_below-far, colours-far}
use Rattle.books.specs.Press.{greatest_of}
use Rattle.books.specs.Size.{size_at, after_size}
use Rattle.books.specs.Cells.{refused_cells, cells_onward, cells_at}
use Rattle.books.specs.Sheet.{refused_sheet, filled_at, sheet_of}
use Rattle.books.specs.declared.size.Size.{Size}
use Rattle.books.specs.SizeRead.{SizeRead, By, Refused as RefusedSize}
use Rattle.books.specs.SheetRead.{SheetRead}
use Rattle.books.proofs.Area.{within-area}
use Rattle.books.proofs.ReadingSizes.{size-lies}
use Rattle.books.proofs.ReadingCells.{cells-lie}
use Rattle.books.proofs.ReadingSheets.{farthest}
use Rattle.books.proofs.FarBooks.{ending-same}

-- what is read alike goes on alike
module _ {ℓ} {A : Type ℓ} (refuse : Fault → A) where
  after_size-same : (r q : SizeRead) (go to : Size → ℕ → A) → r ≡ q
      → ((z : Size) (next : ℕ) → q ≡ By z next → go z next ≡ to z next) → after_size refuse r go ≡ after_size refuse q to
  after_size-same r (By z next) go to e f = rw e (f z next refl)
  after_size-same r (RefusedSize f) go to e g = rw e

-- what follows a ticket
abbrev sized : ℕ → List ℕ → Colours → ℕ → ℕ → SheetRead
sized press s c ticket at =
    after_size refused_sheet (size_at s at (greatest_of press)) (λ size next.
    filled_at s (greatest_of press) c ticket size (cells_at s c.count next (size.rows * size.cols)))

module _ (press : ℕ) (t u : List ℕ) where
  size-far : (at most : ℕ) → at + 5 < length t → size_at (t ++ u) at most ≡ size_at t at most
  unfolding size_at
  size-far at most h =
      onward-same RefusedSize (number_in (t ++ u) at 1 most) (number_in t at 1 most) _ _ (number_in-far t u at 1 most (omega arith))
      (λ rows next e. rw (number_in-far t u next 1 most (omega (arith, (number_in_lem t at 1 most rows next e).near))))

  cells_from-far : (colours k : ℕ) (cells : List ℕ) (i at : ℕ) → at + 3 * k < length t → cells_onward (t ++ u) colours cells i at k ≡ cells_onward t colours cells i at k
  cells_from-far colours zero cells i at h = refl
  cells_from-far colours (suc k) cells i at h =
      onward-same refused_cells (number_below (t ++ u) at colours 6) (number_below t at colours 6) _ _ (number_below-far t u at colours 6 (omega arith))
      (λ v next e. cells_from-far colours k (set cells i v) (i + 1) next (omega (arith, (number_below_lem t at colours 6 v next e).near)))

  cells-far : (colours at count : ℕ) → at + 3 * count < length t → cells_at (t ++ u) colours at count ≡ cells_at t colours at count
  unfolding cells_at
  cells-far colours at count h = cells_from-far colours count _ 0 at h

  -- the cells are the same, and bytes follow them in both
  filled-far : (c : Colours) (ticket : ℕ) (size : Size) (at count : ℕ) → at ≤ length t → at + 3 * count < length t
      → filled_at (t ++ u) (greatest_of press) c ticket size (cells_at t c.count at count) ≡ filled_at t (greatest_of press) c ticket size (cells_at t c.count at count)
  unfolding filled_at
  filled-far c ticket size at count inside h =
      let r = cells_at t c.count at count in
      faultless-same refused_sheet r.fault _ _
      (λ z. ending-same refused_sheet t u r.next _ _ (omega (arith, (cells-lie t c.count (at + 3 * count) at count inside (omega arith) z).near)))

  sized-far : (c : Colours) (ticket at : ℕ) → at + 6 + 3 * (greatest_of press * greatest_of press) < length t → sized press (t ++ u) c ticket at ≡ sized press t c ticket at
  sized-far c ticket at h =
      after_size-same refused_sheet (size_at (t ++ u) at (greatest_of press)) (size_at t at (greatest_of press)) _ _ (size-far at (greatest_of press) (omega arith))
      (λ size next e.
      let l = size-lies t at (greatest_of press) size next e in
      let count = size.rows * size.cols in
      let near : next + 3 * count < length t = omega (arith, l.near, within-area l.within) in
      rw (cells-far c.count next count near) (filled-far c ticket size next count l.inside near))

  ticketed-far : (c : Colours) (at : ℕ) → at + 9 + 3 * (greatest_of press * greatest_of press) < length t
      → onward refused_sheet (number_at (t ++ u) at) (sized press (t ++ u) c) ≡ onward refused_sheet (number_at t at) (sized press t c)
  ticketed-far c at h =
      onward-same refused_sheet (number_at (t ++ u) at) (number_at t at) _ _ (number-far t u at (omega arith))
      (λ ticket then e. sized-far c ticket then (omega (arith, (number-lies t at ticket then e).near)))

  pub sheet-far : farthest press < length t → sheet_of press (t ++ u) ≡ sheet_of press t
  unfolding sheet_of
  sheet-far h =
      rw (colours-far t u (omega arith))
      (faultless-same refused_sheet (colours_of t).fault _ _ (λ z. ticketed-far (colours_of t).colours (colours_of t).next (omega (arith, (colours-lie t z).near))))
