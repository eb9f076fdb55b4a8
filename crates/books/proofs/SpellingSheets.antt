-- All contents of a sheet that keep the rules have exactly one accepted spelling, and reading it gives them back: colours, ticket, rows, columns
-- and cells are spelled one after the other, and each is read back at its place.
use Prim.Native.Nat.{ℕ, suc, ◌+◌, ◌≤◌}
use mathlib.Core.Path.{◌≡◌, refl, sym, ap, ap₂, ◌∙◌}
use mathlib.Core.List.{List, [], ◌∷◌, ◌++◌, append_assoc, append-nil}
use native.Mathlib.Omega.{arith}
use native.Mathlib.Nat.{add-zero}
use native.Mathlib.Numerals.{add-one}
use borrow.Author.Tests.{le-ltb}
use lib.ListN.{length, drop, set, length-append, length-drop, drop_of_length-le}
use lib.Seq.{sets, drop-append_seam}
use Rattle.names.specs.Pick.{fault}
use Rattle.names.specs.Number.{greatest_number, number_in, spell_number}
use Rattle.names.specs.Name.{Name}
use Rattle.names.specs.Colours.{colours_of}
use Rattle.names.specs.Spelling.{spell_colours}
use Rattle.names.specs.Fault.{Fault}
use Rattle.names.specs.Read.{Value}
use Rattle.names.proofs.ReadingNumbers.{number-there, number-most, number_in-range, number_below-count}
use Rattle.names.specs.Bytes.{Bytes}
use Rattle.names.proofs.SpellingNumbers.{number_spelled, number-reads-at}
use Rattle.names.proofs.ReadingColours.{names-count}
use Rattle.names.proofs.SpellingColours.{colours-accepted, colours-read-back, drop_past, past-inside}
use Rattle.books.specs.Grid.{Grid, GridKeeps}
use Rattle.books.specs.ContentsIn.{grid_in}
use Rattle.books.specs.Press.{greatest_of}
use Rattle.books.specs.Size.{size_by, Within, size_at}
use Rattle.books.specs.Cells.{no_cells, cells_onward, cells_at}
use Rattle.books.specs.Sheet.{filled_at, sheet_of}
use Rattle.books.specs.SpellSheet.{spell_cells, spell_sheet}
use Rattle.books.specs.SizeRead.{By}
use Rattle.books.specs.declared.sheet.Sheet.{Sheet}
use Rattle.books.proofs.Presses.{greatest-few}
use Rattle.books.proofs.Area.{within-room}
use Rattle.books.proofs.ReadingCells.{Fit, no_cells_lem, stored-first}
use Rattle.books.proofs.ReadingSheets.{sheet-staged, staged-cells}

-- ── What is accepted is a spelling ──

-- an accepted sheet has contents that keep the rules, and is their spelling
pub record SheetSpelled (press : ℕ) (s : List ℕ) (h : Sheet) : Type 0 where
  pub keeps : GridKeeps press (grid_in s h)
  pub spelled : s ≡ spell_sheet (grid_in s h)

module _ (press : ℕ) (s : List ℕ) (bytes : Bytes s) (z : (sheet_of press s).fault.number ≡ 0) where
  pub sheet-accepted : SheetSpelled press s (sheet_of press s).sheet
  sheet-accepted =
      let g = sheet-staged press s z in
      let c = colours-accepted s bytes (ap (λ (f : Fault). f.number) g.listed.fine) in
      let size = g.sized in
      let stand = staged-cells press s (sheet_of press s) g in
      let ticket = number_spelled s bytes _ _ _ g.ticketed in
      let rows = number_spelled s bytes _ _ _ (number-there s _ 1 (greatest_of press) _ _ size.rows_there) in
      let cols = number_spelled s bytes _ _ _ (number-there s _ 1 (greatest_of press) _ _ size.cols_there) in
      let cells : drop g.at s ≡ spell_cells g.filled.new = g.filled.spelled bytes ∙ (rw (drop_of_length-le s g.ended) (append-nil _)) in
      record {
        keeps = record {
          colours_ok = rw g.colours c.ok;
          ticket_few = number-most s _ _ _ g.ticketed;
          within = size.within;
          cells_all = rw stand g.filled.count;
          cells_fit = rw (stand, g.colours, names-count s (colours_of s).colours) g.filled.fit;
        };
        spelled = rw (stand, g.colours, ← cells, ← cols, ← rows, ← ticket) c.spelled;
      }

-- two accepted inputs with the same contents are the same input
pub one-spelling : (press : ℕ) (s t : List ℕ) → Bytes s → Bytes t → (sheet_of press s).fault.number ≡ 0 → (sheet_of press t).fault.number ≡ 0
    → grid_in s (sheet_of press s).sheet ≡ grid_in t (sheet_of press t).sheet → s ≡ t
one-spelling press s t bs bt zs zt e = (sheet-accepted press s bs zs).spelled ∙ (ap spell_sheet e ∙ sym (sheet-accepted press t bt zt).spelled)

-- ── A spelling is accepted ──

module _ (s : List ℕ) where
  -- a number in its range
  range-read : (most at n : ℕ) (b : List ℕ) → most ≤ greatest_number → at ≤ length s → 1 ≤ n → n ≤ most → drop at s ≡ spell_number n ++ b
      → number_in s at 1 most ≡ Value n (at + length (spell_number n))
  range-read most at n b small h low high e =
      number_in-range s at 1 most n _ (number-reads-at s b at n h (omega arith) e) low high

  size-read : (most at rows cols : ℕ) (b : List ℕ) → most ≤ greatest_number → at ≤ length s → Within most rows cols
      → drop at s ≡ spell_number rows ++ (spell_number cols ++ b)
      → size_at s at most ≡ By (size_by rows cols) ((at + length (spell_number rows)) + length (spell_number cols))
  unfolding size_at
  size-read most at rows cols b small h w e =
      let next = drop_past s (spell_number rows) (spell_number cols ++ b) at e in
      let inside = past-inside s (spell_number rows) (spell_number cols ++ b) at h e in
      simp (
        range-read most at rows (spell_number cols ++ b) small h w.rows_some w.rows_few e,
        range-read most (at + length (spell_number rows)) cols b small inside w.cols_some w.cols_few next,
      )

  -- so many numbers, stored from the i-th cell on
  cells-read : (colours : ℕ) → colours ≤ greatest_number → (vs cells : List ℕ) (i at : ℕ) (b : List ℕ) → at ≤ length s → Fit colours vs
      → drop at s ≡ spell_cells vs ++ b
      → cells_onward s colours cells i at (length vs) ≡ record { fault = fault 0 0; cells = sets cells i vs; next = at + length (spell_cells vs) }
  cells-read colours small [] cells i at b h fit e = rw add-zero
  cells-read colours small (v ∷ vs) cells i at b h fit e =
      let e' : drop at s ≡ spell_number v ++ (spell_cells vs ++ b) = e ∙ append_assoc (spell_number v) (spell_cells vs) b in
      let low = fit 0 (omega arith) in
      let next = at + length (spell_number v) in
      let first = number_below-count s at colours 6 v next (number-reads-at s (spell_cells vs ++ b) at v h (omega arith) e') low in
      let inside = past-inside s (spell_number v) (spell_cells vs ++ b) at h e' in
      let others = cells-read colours small vs (set cells i v) (i + 1) next b inside (λ j l. fit (suc j) (omega arith)) (drop_past s (spell_number v) (spell_cells vs ++ b) at e') in
      let end : next + length (spell_cells vs) ≡ at + length (spell_number v ++ spell_cells vs) = omega (arith, length-append (spell_number v) (spell_cells vs)) in
      simp first (others ∙ rw (add-one, end))

-- the sheet that contents are read back as
abbrev pub sheet_for : ℕ → Grid → Sheet
sheet_for press g =
    record {
      colours = (colours_of (spell_sheet g)).colours;
      ticket = g.ticket;
      most = greatest_of press;
      size = size_by g.rows g.cols;
      cells = sets no_cells 0 g.cells;
    }

module _ (press : ℕ) (g : Grid) (k : GridKeeps press g) where
  sheet-read : sheet_of press (spell_sheet g) ≡ record { fault = fault 0 0; sheet = sheet_for press g }
  unfolding sheet_of filled_at cells_at
  sheet-read =
      let s = spell_sheet g in
      let colours = spell_colours g.colours in
      let ticket = spell_number g.ticket in
      let rows = spell_number g.rows in
      let cols = spell_number g.cols in
      let cells = spell_cells g.cells in
      let names = colours-read-back g.colours (ticket ++ (rows ++ (cols ++ cells))) k.colours_ok in
      let count : (colours_of s).colours.count ≡ length g.colours = sym (names-count s (colours_of s).colours) ∙ ap length names.names in
      let few : length g.colours ≤ greatest_number = omega (arith, k.colours_ok.few) in
      let at_ticket = length colours in
      let at_rows = at_ticket + length ticket in
      let at_cols = at_rows + length rows in
      let at_cells = at_cols + length cols in
      let ticket-there : drop at_ticket s ≡ ticket ++ (rows ++ (cols ++ cells)) = drop-append_seam colours _ in
      let rows_there = drop_past s ticket (rows ++ (cols ++ cells)) at_ticket ticket-there in
      let cols_there = drop_past s rows (cols ++ cells) at_rows rows_there in
      let cells_there : drop at_cells s ≡ cells ++ [] = drop_past s cols cells at_cols cols_there ∙ sym (append-nil cells) in
      let ticket_inside : at_ticket ≤ length s = omega (arith, length-append colours (ticket ++ (rows ++ (cols ++ cells)))) in
      let rows_Inside = past-inside s ticket (rows ++ (cols ++ cells)) at_ticket ticket_inside ticket-there in
      let cols_inside = past-inside s rows (cols ++ cells) at_rows rows_Inside rows_there in
      let cells-inside = past-inside s cols cells at_cols cols_inside cols_there in
      let job = number-reads-at s (rows ++ (cols ++ cells)) at_ticket g.ticket ticket_inside k.ticket_few ticket-there in
      let size = size-read s (greatest_of press) at_rows g.rows g.cols cells (omega (arith, greatest-few press)) rows_Inside k.within rows_there in
      let filled = cells-read s (length g.colours) few g.cells no_cells 0 at_cells [] cells-inside k.cells_fit cells_there in
      let end : length s ≤ at_cells + length cells =
      omega (arith, length-drop (at_cells + length cells) s, ap (λ (x : List ℕ). length x) (drop_past s cells [] at_cells cells_there)) in
      simp (names.fine, names.next, job, size, count, ← k.cells_all, filled, le-ltb (at_cells + length cells) (length s) end)

  -- its contents
  sheet-contents : grid_in (spell_sheet g) (sheet_for press g) ≡ g
  sheet-contents =
      let names = colours-read-back g.colours (spell_number g.ticket ++ (spell_number g.rows ++ (spell_number g.cols ++ spell_cells g.cells))) k.colours_ok in
      let few : length g.cells ≤ length no_cells = omega (arith, k.cells_all, within-room press k.within, no_cells_lem) in
      ap₂ (λ (x : List Name) (y : List ℕ). record { colours = x; ticket = g.ticket; rows = g.rows; cols = g.cols; cells = y })
      names.names (rw (← k.cells_all) (stored-first no_cells g.cells few))

  pub sheet-read-back : ((sheet_of press (spell_sheet g)).fault ≡ fault 0 0) × (grid_in (spell_sheet g) (sheet_of press (spell_sheet g)).sheet ≡ g)
  sheet-read-back = rw sheet-read (refl, sheet-contents)
