-- What the look-up of a size answers, from the bytes of the lent sheet: rows are few, so that division takes the number apart again; and it is 0 exactly
-- where the sheet is refused, since a sheet has a row.
use Prim.Native.Nat.{ℕ, ◌/◌, ◌%◌, ◌^◌, ◌<◌}
use mathlib.Core.Path.{◌≡◌}
use mathlib.Core.List.{List}
use mathlib.Core.Logic.{◌↔◌, ⊎_elim}
use native.Mathlib.Nat.{eq-zero-or-pos}
use native.Mathlib.Omega.{arith}
use Rattle.books.specs.Calls.{size_in, size_of}
use Rattle.books.specs.ContentsIn.{grid_in}
use Rattle.books.specs.Press.{IsPress}
use Rattle.books.specs.Sheet.{sheet_of}
use Rattle.books.specs.declared.size.Size.{Size}
use Rattle.books.proofs.Presses.{greatest-few}
use Rattle.books.proofs.ReadingSheets.{sheet-lies, sheet-refused, sheet-press, size_few}
use Rattle.lookups.specs.Sheet.{packed_size, size_shown}

-- rows and columns, as a host reads them off the number of a size
pub record SizeApart (z : Size) (n : ℕ) : Type 0 where
  pub rows_is : n % 2 ^ 32 ≡ z.rows
  pub columns_is : n / 2 ^ 32 ≡ z.cols

pub size-apart : (z : Size) → z.rows < 2 ^ 32 → SizeApart z (packed_size z)
size-apart z h = record { rows_is = omega arith; columns_is = omega arith }

module _ (press : ℕ) (s : List ℕ) where
  -- the number shown of a sheet, taken apart, is the size of the contents
  pub size_shown_lem : SizeApart (size_in (grid_in s (sheet_of press s).sheet)) (size_shown press s)
  size_shown_lem = size-apart (size_of press s) (omega (arith, size_few press s, greatest-few press))

  -- it is 0 exactly where the sheet is refused, and not 0 exactly where it is accepted
  pub no-size-exactly : (size_shown press s ≡ 0) ↔ ((sheet_of press s).fault.number ≡ 0 → ⊥)
  no-size-exactly = (λ e z. omega (arith, (sheet-lies press s z).within.rows_some), λ d. rw (sheet-refused press s d).none)

  -- as of every sheet where there is no such press
  pub no-press-no-size : (IsPress press → ⊥) → size_shown press s ≡ 0
  no-press-no-size n = no-size-exactly.1 (λ z. n (sheet-press press s z))

  pub size-exactly : (size_shown press s ≡ 0 → ⊥) ↔ ((sheet_of press s).fault.number ≡ 0)
  size-exactly = (
    λ d. ⊎_elim (λ z. z) (λ p. absurd (d (no-size-exactly.1 (λ z. omega arith)))) (eq-zero-or-pos (sheet_of press s).fault.number),
    λ z e. no-size-exactly.0 e z,
  )
