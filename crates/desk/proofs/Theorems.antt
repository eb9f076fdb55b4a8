-- The theorems of the call. Where the slice held the table of the sheet, 0 is answered exactly when the family derives the sheet as it is left; and a cell that gets the
-- colour it has leaves the sheet and such a slice as they are.
use Prim.Native.Nat.{ℕ}
use mathlib.Core.Path.{◌≡◌, refl, sym, ap, ap₂, ◌∙◌}
use mathlib.Core.Bool.{Bool, true, false}
use mathlib.Core.List.{List, ◌++◌}
use mathlib.Core.Logic.{◌↔◌, ⊎_elim}
use native.Mathlib.Omega.{arith}
use lib.ListN.{length, get_or, take, take-append-drop}
use lib.Seq.{set-get_or}
use Rattle.names.specs.Pick.{pick}
use Rattle.names.proofs.Settled.{settled}
use Rattle.names.proofs.Tests.{true-or-false}
use Rattle.books.specs.Answer.{plain}
use Rattle.books.specs.Contents.{Contents}
use Rattle.books.specs.Lent.{contents_of, picture_of}
use Rattle.books.specs.Derives.{Member}
use Rattle.books.specs.Decide.{derives?}
use Rattle.books.specs.Picture.{Picture}
use Rattle.books.specs.Sheet.{sheet_of}
use Rattle.books.specs.declared.answer.Answer.{Answer}
use Rattle.books.proofs.Deciding.{decided, refused}
use Rattle.books.proofs.ReadingSheets.{sheet-lies}
use Rattle.pieces.specs.Area.{whole}
use Rattle.pieces.specs.Asking.{start_answer}
use Rattle.pieces.specs.Derivation.{entries_needed}
use Rattle.pieces.specs.Largest.{marked}
use Rattle.pieces.specs.Table.{table}
use Rattle.pieces.proofs.Cutting.{whole-inside, cut-whole}
use Rattle.pieces.proofs.Entries.{entry-tests}
use Rattle.pieces.proofs.Judging.{Holds, held-entry}
use Rattle.desk.specs.Recolour.{cell_place, sheet_with, Recolouring, LeftBy}
use Rattle.desk.proofs.Recast.{Taken, left, sound, sheet-left, still-accepted, beyond-kept, answered-by-bit}
use Rattle.desk.proofs.TableKept.{table_kept}

module _ (press : ℕ) (book sheet entries : List ℕ) (row column colour : ℕ) (t : Taken press book sheet entries row column colour) where
  abbrev b : Contents
  b = contents_of book

  abbrev p : Picture
  p = picture_of press (sheet_with press sheet row column colour)

  abbrev outcome : Recolouring
  outcome = left press book sheet entries row column colour t

  module _ (held : Holds b (picture_of press sheet) entries) where
    by-derivation : outcome.answer ≡ plain (pick (derives? b b.start p) 0 11)
    unfolding start_answer marked
    by-derivation =
        let k = (sheet-lies press (sheet_with press sheet row column colour) (still-accepted press book sheet entries row column colour t)).within in
        let entry = held-entry b p outcome.entries (table_kept press book sheet entries row column colour t held) (whole p.rows p.cols)
        (whole-inside p.rows p.cols k.rows_some k.cols_some) in
        answered-by-bit press book sheet entries row column colour t
        ∙ rw (entry, cut-whole p, entry-tests b p b.start (sound press book sheet entries row column colour t).start_fits) refl

    told : {d : Bool} → derives? b b.start p ≡ d → outcome.answer ≡ plain (pick d 0 11)
    told e = by-derivation ∙ ap (λ (d : Bool). plain (pick d 0 11)) e

    pub eleven-otherwise : (Member b p → ⊥) → outcome.answer ≡ plain 11
    eleven-otherwise none = told ((refused b b.start p).1 none)

    pub zero-exactly : (outcome.answer ≡ plain 0) ↔ Member b p
    zero-exactly = (
      λ e. ⊎_elim
          (λ (d : derives? b b.start p ≡ true). (decided b b.start p).0 d)
          (λ (d : derives? b b.start p ≡ false). let z : ◌≡◌ {A = ℕ} 11 0 = ap (λ (a : Answer). a.number) (sym (told d) ∙ e) in absurd (omega arith))
          (true-or-false (derives? b b.start p)),
      λ x. told ((decided b b.start p).1 x),
    )

  -- ── The colour that the cell has ──

  module _ (own : get_or sheet (cell_place (length sheet) (sheet_of press sheet).sheet.size row column) 0 ≡ colour) where
    same_bytes : sheet_with press sheet row column colour ≡ sheet
    same_bytes = rw (← own) (set-get_or sheet (cell_place (length sheet) (sheet_of press sheet).sheet.size row column) 0)

    pub sheet-unchanged : outcome.bytes ≡ sheet
    sheet-unchanged = sheet-left press book sheet entries row column colour t ∙ same_bytes

    pub table-unchanged : Holds b (picture_of press sheet) entries → outcome.entries ≡ entries
    table-unchanged held =
        let shows : p ≡ picture_of press sheet = ap (λ (x : List ℕ). picture_of press x) same_bytes in
        let now = (table_kept press book sheet entries row column colour t held).held in
        let beyond = beyond-kept press book sheet entries row column colour t in
        sym (take-append-drop (entries_needed p) outcome.entries)
        ∙ ap₂ (λ (x y : List ℕ). x ++ y) (now ∙ ap (table b) shows ∙ sym held.held ∙ ap (λ (q : Picture). take (entries_needed q) entries) (sym shows)) beyond
        ∙ take-append-drop (entries_needed p) entries

-- Two outcomes that the contract allows are equal, told as they are or packed.
pub recolour-settled : {A : Type 0} (told : Answer → A) (d : Recolouring) (r q : A) (sheet other work entries : List ℕ)
    → LeftBy told d r sheet work → LeftBy told d q other entries → (r ≡ q) × (sheet ≡ other) × (work ≡ entries)
recolour-settled told d r q sheet other work entries x y =
    (settled x.answers y.answers, settled x.leaves_sheet y.leaves_sheet, settled x.leaves_work y.leaves_work)
