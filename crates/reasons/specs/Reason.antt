-- The number and the values of each reason, and the count that a C host gets for it.
use Rattle.std.specs.Prelude.{ℕ, ◌+◌, ◌*◌, ◌/◌, ◌%◌, ◌^◌, ◌<◌, eqb}
use Rattle.names.specs.Pick.{pick}
use Rattle.reasons.specs.declared.reason.Reason.{Reason}
use Rattle.reasons.specs.declared.reason.Reason.TheVariants.{NoReason, Unnamed, NoSuchSize, Largest, NoPiece}

-- its number, and what it names: a row and a column, and for a piece its height and width. What it does not name is 0.
pub record Values : Type 0 where
  pub kind : ℕ
  pub row : ℕ
  pub column : ℕ
  pub height : ℕ
  pub width : ℕ

abbrev pub values : ℕ → ℕ → ℕ → ℕ → ℕ → Values
values k r c h w = record { kind = k; row = r; column = c; height = h; width = w }

-- no reason is 0; a cell whose colour no rule names, by its row and column; no sheet of this size; the largest piece that the start derives, by its top row,
-- left column, height and width; there is none
abbrev pub values_of : Reason → Values
values_of NoReason = values 0 0 0 0 0
values_of (Unnamed row column) = values 1 row column 0 0
values_of NoSuchSize = values 2 0 0 0 0
values_of (Largest top left height width) = values 3 top left height width
values_of NoPiece = values 4 0 0 0 0

abbrev pub kind : Reason → ℕ
kind r = (values_of r).kind

-- each in its bits, from the lowest up
abbrev pub packed_values : Values → ℕ
packed_values v = v.kind + 2 ^ 3 * v.row + 2 ^ 8 * v.column + 2 ^ 13 * v.height + 2 ^ 18 * v.width

abbrev pub packed_reason : Reason → ℕ
packed_reason r = packed_values (values_of r)

-- what the values must keep, so that the count can be taken apart again: those of every reason that is given do
pub record Fits (v : Values) : Type 0 where
  pub row_fits : v.row < 2 ^ 5
  pub column_fits : v.column < 2 ^ 5
  pub height_fits : v.height < 2 ^ 5
  pub width_fits : v.width < 2 ^ 5

-- the number taken apart as the header does: the count starts at bit 32
abbrev pub values_in : ℕ → Values
values_in r = values (r / 2 ^ 32 % 2 ^ 3) (r / 2 ^ 35 % 2 ^ 5) (r / 2 ^ 40 % 2 ^ 5) (r / 2 ^ 45 % 2 ^ 5) (r / 2 ^ 50 % 2 ^ 5)

-- the reason that a host reads off
abbrev pub reason_with : Values → Reason
reason_with v =
    pick (eqb v.kind 1) (Unnamed v.row v.column)
    (pick (eqb v.kind 2) NoSuchSize
    (pick (eqb v.kind 3) (Largest v.row v.column v.height v.width)
    (pick (eqb v.kind 4) NoPiece NoReason)))

unfoldable pub reason_read : ℕ → Reason
reason_read r = reason_with (values_in r)
