-- Every answer packs, and the reason is read off the count again: rows and columns stand in their bits, since a sheet has few of both.
use Prim.Native.Nat.{ℕ, ◌+◌, ◌*◌, ◌/◌, ◌%◌, ◌^◌, ◌≤◌, ◌<◌}
use mathlib.Core.Path.{◌≡◌, refl, ap, ◌∙◌}
use mathlib.Core.List.{List}
use native.Mathlib.Omega.{arith}
use Rattle.books.specs.Answer.{Packs}
use Rattle.books.specs.Contents.{Contents}
use Rattle.books.specs.Picture.{Picture}
use Rattle.books.specs.Press.{widest}
use Rattle.books.proofs.Packing.{plain-packs}
use Rattle.books.proofs.Refusals.{refusal-packs}
use Rattle.books.proofs.Presses.{greatest-few}
use Rattle.books.proofs.ReadingSheets.{sheet-lies}
use Rattle.books.proofs.SizesWithin.{within_more}
use Rattle.books.specs.Lent.{contents_of, picture_of}
use Rattle.reasons.specs.declared.reason.Reason.{Reason}
use Rattle.reasons.specs.declared.reason.Reason.TheVariants.{NoReason, Unnamed, NoSuchSize, Largest, NoPiece}
use Rattle.reasons.specs.Reason.{Values, values, values_of, kind, packed_values, packed_reason, Fits, values_in, reason_with, reason_read}
use Rattle.reasons.specs.Holds.{Holds}
use Rattle.reasons.specs.Why.{Outcome, reason_of, why_not}
use Rattle.reasons.proofs.Endings.{why_not-ends}

-- ── The values of a reason that holds ──

pub no-values : Fits (values 0 0 0 0 0)
no-values = record { row_fits = omega arith; column_fits = omega arith; height_fits = omega arith; width_fits = omega arith }

holding-fits : (b : Contents) (p : Picture) → p.rows ≤ widest → p.cols ≤ widest → (r : Reason) → Holds b p r → Fits (values_of r)
holding-fits b p hr hc NoReason x = absurd x
holding-fits b p hr hc (Unnamed row column) x =
    record { row_fits = omega (arith, x.in_rows); column_fits = omega (arith, x.in_cols); height_fits = omega arith; width_fits = omega arith }
holding-fits b p hr hc NoSuchSize x = record { row_fits = omega arith; column_fits = omega arith; height_fits = omega arith; width_fits = omega arith }
holding-fits b p hr hc (Largest top left height width) x =
    let i = x.1.is.inside in
    record { row_fits = omega (arith, i.low); column_fits = omega (arith, i.right); height_fits = omega (arith, i.low); width_fits = omega (arith, i.right) }
holding-fits b p hr hc NoPiece x = record { row_fits = omega arith; column_fits = omega arith; height_fits = omega arith; width_fits = omega arith }

-- ── The count taken apart ──

kind-low : (r : Reason) → kind r < 2 ^ 3
kind-low NoReason = omega arith
kind-low (Unnamed row column) = omega arith
kind-low NoSuchSize = omega arith
kind-low (Largest top left height width) = omega arith
kind-low NoPiece = omega arith

-- the parts above one part are a quotient, and the part is what is left of it
part : (q x above : ℕ) → q ≡ x + 2 ^ 5 * above → x < 2 ^ 5 → q % 2 ^ 5 ≡ x
part q x above e h = omega arith

values-apart : (n : ℕ) (v : Values) → n / 2 ^ 32 ≡ packed_values v → v.kind < 2 ^ 3 → Fits v → values_in n ≡ v
values-apart n v count low f =
    let a : n / 2 ^ 32 % 2 ^ 3 ≡ v.kind = omega arith in
    let q : n / 2 ^ 35 ≡ v.row + 2 ^ 5 * (v.column + 2 ^ 5 * v.height + 2 ^ 10 * v.width) = omega arith in
    let s : n / 2 ^ 40 ≡ v.column + 2 ^ 5 * (v.height + 2 ^ 5 * v.width) = omega (arith, f.row_fits) in
    let t : n / 2 ^ 45 ≡ v.height + 2 ^ 5 * v.width = omega (arith, f.column_fits) in
    let u : n / 2 ^ 50 ≡ v.width + 2 ^ 5 * 0 = omega (arith, f.height_fits) in
    λ i. record {
      kind = a i;
      row = part _ _ _ q f.row_fits i;
      column = part _ _ _ s f.column_fits i;
      height = part _ _ _ t f.height_fits i;
      width = part _ _ 0 u f.width_fits i;
    }

with_values : (r : Reason) → reason_with (values_of r) ≡ r
with_values NoReason = refl
with_values (Unnamed row column) = refl
with_values NoSuchSize = refl
with_values (Largest top left height width) = refl
with_values NoPiece = refl

-- a number with the count of a reason has its values, and so the reason
module _ (n : ℕ) (r : Reason) (count : n / 2 ^ 32 ≡ packed_reason r) (f : Fits (values_of r)) where
  pub values-read : values_in n ≡ values_of r
  values-read = values-apart n (values_of r) count (kind-low r) f

  pub reason_read_lem : reason_read n ≡ r
  unfolding reason_read
  reason_read_lem = ap reason_with values-read ∙ with_values r

packed-low : (r : Reason) → Fits (values_of r) → packed_reason r < 2 ^ 32
packed-low r f =
    let low = kind-low r in
    let row = f.row_fits in
    let column = f.column_fits in
    let height = f.height_fits in
    let width = f.width_fits in
    omega arith

-- ── Every outcome ──

pub record Packable (o : Outcome) : Type 0 where
  pub fits : Fits (values_of o.reason)
  pub packs : Packs o.answer (packed_reason o.reason)

pub why_not-packs : (press : ℕ) (book sheet entries : List ℕ) → Packable (why_not press book sheet entries)
why_not-packs press book sheet entries =
    why_not-ends press book sheet entries Packable
    (record {
      refusing = λ a r. record { fits = no-values; packs = refusal-packs r };
      short_work = λ fine short. record { fits = no-values; packs = plain-packs 9 0 (omega arith) (omega arith) };
      in_family = λ fine room x. record { fits = no-values; packs = plain-packs 15 0 (omega arith) (omega arith) };
      explained = λ fine room other first.
          let s = within_more (greatest-few press) (sheet-lies press sheet fine.sheet_fine).within in
          let fits = holding-fits (contents_of book) (picture_of press sheet) s.rows_few s.cols_few (reason_of (contents_of book) (picture_of press sheet)) first.holds in
          record { fits = fits; packs = plain-packs 0 _ (omega arith) (packed-low (reason_of (contents_of book) (picture_of press sheet)) fits) };
    })
