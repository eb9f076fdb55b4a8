-- The longest sheet has the bytes of the longest colour list, three for the ticket, one for the rows, one for the columns, and one for each cell, of
-- which there are as many as its press has rows and columns at most. Its spelling is made of bytes.
use Prim.Native.Nat.{ℕ, suc, ◌+◌, ◌*◌, ◌≤◌}
use mathlib.Core.Path.{◌≡◌, refl, ap}
use mathlib.Core.List.{List, [], ◌∷◌, ◌++◌}
use native.Mathlib.Omega.{arith}
use lib.ListN.{length, length-append, replicate, length-replicate, get_or-replicate}
use Rattle.names.specs.Number.{greatest_number, spell_number}
use Rattle.names.specs.Spelling.{spell_colours}
use Rattle.names.specs.Bytes.{Bytes}
use Rattle.names.proofs.SpellingNumbers.{spell-short, spell-longest, spell-few}
use Rattle.books.specs.Grid.{Grid, GridKeeps}
use Rattle.books.specs.ContentsIn.{grid_in}
use Rattle.books.specs.Press.{greatest_of, IsPress}
use Rattle.books.specs.Sheet.{sheet_of}
use Rattle.books.specs.SpellSheet.{spell_cells, spell_sheet}
use Rattle.books.proofs.Presses.{greatest-few, greatest-some}
use Rattle.books.proofs.Area.{within-area}
use Rattle.names.proofs.SpelledBytes.{FewBytes, none-few, both-few, fewer, number-one, number-three, colours_few}
use Rattle.names.proofs.LongestColours.{colours-longest, longest_names, longest-names, longest-length}
use Rattle.books.proofs.ReadingCells.{Fit}
use Rattle.books.proofs.SpellingSheets.{sheet-accepted}

-- a colour's number has one byte
cells-length : (colours : ℕ) → colours ≤ 128 → (vs : List ℕ) → Fit colours vs → length (spell_cells vs) ≡ length vs
cells-length colours few [] fit = refl
cells-length colours few (v ∷ vs) fit =
    let low = fit 0 (omega arith) in
    omega (arith, length-append (spell_number v) (spell_cells vs), spell-short v (omega arith), cells-length colours few vs (λ i h. fit (suc i) (omega arith)))

pub sheet-length : (press : ℕ) (g : Grid) → GridKeeps press g → length (spell_sheet g) ≡ length (spell_colours g.colours) + length (spell_number g.ticket) + 2 + g.rows * g.cols
sheet-length press g k =
    let colours = spell_colours g.colours in
    let ticket = spell_number g.ticket in
    let rows = spell_number g.rows in
    let cols = spell_number g.cols in
    let cells = spell_cells g.cells in
    omega (
      arith,
      length-append colours (ticket ++ (rows ++ (cols ++ cells))),
      length-append ticket (rows ++ (cols ++ cells)),
      length-append rows (cols ++ cells),
      length-append cols cells,
      spell-short g.rows (omega (arith, k.within.rows_few, greatest-few press)),
      spell-short g.cols (omega (arith, k.within.cols_few, greatest-few press)),
      cells-length (length g.colours) (omega (arith, k.colours_ok.few)) g.cells k.cells_fit,
      k.cells_all,
    )

cells-few : (colours : ℕ) → colours ≤ 128 → (vs : List ℕ) → Fit colours vs → FewBytes (spell_cells vs) (length vs)
cells-few colours few [] fit = none-few
cells-few colours few (v ∷ vs) fit =
    let low = fit 0 (omega arith) in
    fewer (omega arith) (both-few (number-one v (omega arith)) (cells-few colours few vs (λ i h. fit (suc i) (omega arith))))

pub spelling-bytes : (press : ℕ) (g : Grid) → GridKeeps press g → Bytes (spell_sheet g)
spelling-bytes press g k =
    (both-few (colours_few g.colours k.colours_ok)
    (both-few (number-three g.ticket k.ticket_few)
    (both-few (number-one g.rows (omega (arith, k.within.rows_few, greatest-few press)))
    (both-few (number-one g.cols (omega (arith, k.within.cols_few, greatest-few press)))
    (cells-few (length g.colours) (omega (arith, k.colours_ok.few)) g.cells k.cells_fit))))).bytes

abbrev pub longest_length : ℕ → ℕ
longest_length press = 2630 + greatest_of press * greatest_of press

pub sheet-longest : (press : ℕ) (s : List ℕ) → Bytes s → (sheet_of press s).fault.number ≡ 0 → length s ≤ longest_length press
sheet-longest press s bytes z =
    let a = sheet-accepted press s bytes z in
    let g = grid_in s (sheet_of press s).sheet in
    omega (
      arith,
      ap (λ (x : List ℕ). length x) a.spelled,
      sheet-length press g a.keeps,
      spell-few g.ticket,
      colours-longest g.colours a.keeps.colours_ok,
      within-area a.keeps.within,
    )

-- and one is as long: its ticket is the greatest, and every cell has the first of 64 colours
pub longest : ℕ → Grid
longest press =
    record {
      colours = longest_names;
      ticket = greatest_number;
      rows = greatest_of press;
      cols = greatest_of press;
      cells = replicate (greatest_of press * greatest_of press) 0;
    }

pub longest-keeps : (press : ℕ) → IsPress press → GridKeeps press (longest press)
unfolding longest
longest-keeps press there =
    let some = (greatest-some press).0 there in
    let names = longest-names.some in
    let all = length-replicate {A = ℕ} (greatest_of press * greatest_of press) 0 in
    record {
      colours_ok = longest-names;
      ticket_few = omega arith;
      within = record { rows_some = omega arith; rows_few = omega arith; cols_some = omega arith; cols_few = omega arith };
      cells_all = all;
      cells_fit = λ i h. rw (get_or-replicate {A = ℕ} (greatest_of press * greatest_of press) i 0 0 (omega (arith, all))) names;
    }

pub longest-spelling : (press : ℕ) → IsPress press → length (spell_sheet (longest press)) ≡ longest_length press
unfolding longest
longest-spelling press there = omega (arith, sheet-length press (longest press) (longest-keeps press there), spell-longest greatest_number (omega arith) (omega arith), longest-length)
