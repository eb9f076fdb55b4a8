-- Where the slice held the table of the sheet, it holds that of the sheet as it is left: slot by slot, a piece with the cell has what the rules give it by the entries of
-- its parts, which are right, and a piece without it shows what it showed and keeps its entry.
use Prim.Native.Nat.{ℕ, zero, suc, ◌+◌, ◌≤◌, ◌<◌}
use mathlib.Core.Path.{◌≡◌, refl, sym, ap, ◌∙◌}
use mathlib.Core.Bool.{true≢false}
use mathlib.Core.List.{List}
use mathlib.Core.Logic.{⊎_elim}
use native.Mathlib.Omega.{arith}
use lib.ListN.{length, get_or, take, replicate}
use lib.Seq.{ext_get_or, get_or-take, length-take-le}
use Rattle.names.specs.Bits.{bits}
use Rattle.names.proofs.Tests.{true-or-false}
use Rattle.books.specs.Contents.{Contents}
use Rattle.books.specs.Lent.{contents_of, picture_of}
use Rattle.books.specs.Picture.{Picture, Same}
use Rattle.books.specs.declared.rule.Dir.{Dir}
use Rattle.books.proofs.Deciding.{decided-same}
use Rattle.pieces.specs.Derivation.{entries_needed}
use Rattle.pieces.specs.Filling.{at}
use Rattle.pieces.specs.Firing.{joins_fired}
use Rattle.pieces.specs.Masks.{all_masks, split_of}
use Rattle.pieces.specs.Pieces.{Inside, slot_of}
use Rattle.pieces.specs.Refill.{HasCell, has_cell?}
use Rattle.pieces.specs.Rights.{Fires}
use Rattle.pieces.specs.Table.{cut, entry, table}
use Rattle.pieces.specs.declared.piece.Piece.{Piece}
use Rattle.pieces.proofs.AcceptedInputs.{rules-read}
use Rattle.pieces.proofs.CellsFirst.{cell-or-larger}
use Rattle.pieces.proofs.Judging.{Holds, held-entry}
use Rattle.pieces.proofs.Refilled.{has-cell}
use Rattle.pieces.proofs.ServingMasks.{split-serves}
use Rattle.pieces.proofs.Slots.{slot-onto}
use Rattle.pieces.proofs.TableEntries.{table-length, table_at}
use Rattle.desk.specs.Recolour.{sheet_with}
use Rattle.desk.proofs.OneCell.{same-elsewhere}
use Rattle.desk.proofs.Ruled.{large-right, cell-ruled}
use Rattle.desk.proofs.Recast.{Taken, left, sound, rows_same, cols-same, each-refilled, piece-kept, as-many-entries}

-- the same pictures have the same entry
entry-same : (b : Contents) {p q : Picture} → Same p q → entry b p ≡ entry b q
unfolding entry
entry-same b s = λ z. bits b.motifs (λ a. decided-same b a s z)

-- a slice with the right entry for every piece holds the table
entries-hold : (b : Contents) (p : Picture) (t : List ℕ) → entries_needed p ≤ length t
    → ((q : Piece) → Inside p.rows p.cols q → at p.rows p.cols t q ≡ entry b (cut p q)) → Holds b p t
entries-hold b p t long right = record {
  held =
      ext_get_or 0 (take (entries_needed p) t) (table b p) (length-take-le (entries_needed p) t long ∙ sym (table-length b p))
      (λ i h.
      let low : i < entries_needed p = omega (arith, length-take-le (entries_needed p) t long) in
      let (q, inq, here) = slot-onto p.rows p.cols i low in
      get_or-take (entries_needed p) t i 0 low
      ∙ ap (λ (k : ℕ). get_or t k 0) (sym here) ∙ right q inq ∙ sym (table_at b p q inq) ∙ ap (λ (k : ℕ). get_or (table b p) k 0) here);
}

module _ (press : ℕ) (book sheet entries : List ℕ) (row column colour : ℕ) (t : Taken press book sheet entries row column colour) where
  abbrev b : Contents
  b = contents_of book

  abbrev old : Picture
  old = picture_of press sheet

  abbrev p : Picture
  p = picture_of press (sheet_with press sheet row column colour)

  abbrev after : List ℕ
  after = (left press book sheet entries row column colour t).entries

  -- some masks serve the rules
  abbrev fire : Dir → ℕ → ℕ → ℕ
  fire = let s = split_of b.rules (replicate all_masks 0) in joins_fired s.masks s.joins

  fires : Fires b.rules fire
  fires = (split-serves b.rules (replicate all_masks 0) (rules-read book t.fine.book_fine).few refl).fires

  was-inside : (q : Piece) → Inside p.rows p.cols q → Inside old.rows old.cols q
  was-inside q inq = rw (rows_same press book sheet entries row column colour t, cols-same press book sheet entries row column colour t) at inq

  module _ (held : Holds b old entries) where
    right : (k : ℕ) (q : Piece) → Inside p.rows p.cols q → slot_of p.rows p.cols q < k → at p.rows p.cols after q ≡ entry b (cut p q)
    right zero q inq l = absurd (omega arith)
    right (suc k) q inq l =
        ⊎_elim
        (λ h.
        each-refilled press book sheet entries row column colour t q inq ((has-cell row column q).0 h)
        ∙ ⊎_elim
        (λ large. large-right b (sound press book sheet entries row column colour t) p q fire fires after large inq (λ x inx less. right k x inx (omega arith)))
        (λ e. sym (cell-ruled b (sound press book sheet entries row column colour t) p q after (ap (λ (x : Piece). x.height) (sym e)) (ap (λ (x : Piece). x.width) (sym e))))
        (cell-or-larger p.rows p.cols q inq))
        (λ h.
        let far : HasCell row column q → ⊥ = λ y. true≢false (sym ((has-cell row column q).1 y) ∙ h) in
        let was = was-inside q inq in
        piece-kept press book sheet entries row column colour t q inq far
        ∙ rw (rows_same press book sheet entries row column colour t, cols-same press book sheet entries row column colour t) (held-entry b old entries held q was)
        ∙ entry-same b (same-elsewhere press sheet t.bytes_sheet t.fine.sheet_fine row column colour t.has.row_on t.has.column_on t.has.colour_in q was far))
        (true-or-false (has_cell? row column q))

    -- the table of the old sheet becomes that of the new one
    pub table_kept : Holds b p after
    table_kept =
        entries-hold b p after
        (rw (rows_same press book sheet entries row column colour t, cols-same press book sheet entries row column colour t, as-many-entries press book sheet entries row column colour t) t.room)
        (λ q inq. right (slot_of p.rows p.cols q + 1) q inq (omega arith))
