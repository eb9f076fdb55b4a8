-- What callers use of a sheet that was read: its colours lie within the input, ticket, rows, columns and cells keep their bounds, and a refusal
-- leaves no sheet. Each stage has it from the law of what it reads.
use Prim.Native.Nat.{ℕ, ◌+◌, ◌*◌, ◌<◌, ◌≤◌}
use mathlib.Core.Path.{◌≡◌, refl, ap, ◌∙◌}
use mathlib.Core.List.{List}
use mathlib.Core.Logic.{◌⊎◌, inl, inr, ⊎_elim}
use native.Mathlib.Nat.{eq-zero-or-pos}
use native.Mathlib.Omega.{arith}
use borrow.Author.Tests.{eqb-true, eqb-false, ltb-false}
use lib.Dec.{eqb, ltb}
use lib.ListN.{length, get_or, take, drop}
use lib.Seq.{length-sets, get_or-take}
use Rattle.names.specs.Pick.{fault}
use Rattle.names.specs.Number.{greatest_number, number_at}
use Rattle.names.specs.Colours.{colours_of}
use Rattle.names.specs.Fault.{Fault}
use Rattle.names.specs.Read.{Value}
use Rattle.names.proofs.Picking.{pick_ind}
use Rattle.names.proofs.Tests.{true-or-false}
use Rattle.names.proofs.Onwards.{onward-ind}
use Rattle.names.proofs.ReadingNumbers.{Blamed, blamed-later, number-lies, number-most, number-refused}
use Rattle.names.proofs.ReadingColours.{list_span, Places, places-none, ListLies, colours-lie, colours-refused}
use Rattle.books.specs.Calls.{size_of}
use Rattle.books.specs.Press.{greatest_of, IsPress}
use Rattle.books.specs.Size.{room, Within, size_at}
use Rattle.books.specs.Cells.{CellsRead, no_cells, cells_at}
use Rattle.books.specs.Sheet.{no_sheet, refused_sheet, filled_at, sheet_of}
use Rattle.books.specs.declared.size.Size.{Size}
use Rattle.books.specs.SheetRead.{SheetRead}
use Rattle.books.proofs.Area.{within-area, within-room}
use Rattle.books.proofs.Presses.{greatest-some}
use Rattle.books.proofs.Onwards.{after_size-ind}
use Rattle.books.proofs.ReadingSizes.{SizeLies, size-lies, size-refused}
use Rattle.books.proofs.ReadingCells.{CellsLie, no_cells_lem, stored-first, stored-end, cells-lie, cells-refused}

-- as far as a sheet of a press can reach: its colour list, three numbers, and a number for each cell
abbrev pub farthest : ℕ → ℕ
farthest press = list_span + 9 + 3 * (greatest_of press * greatest_of press)

-- ── The stages of a sheet ──

-- an accepted sheet is what its stages found: a colour list, a ticket, a size, and cells up to the end of the input
pub record Staged (press : ℕ) (s : List ℕ) (r : SheetRead) : Type 0 where
  pub fine : r.fault ≡ fault 0 0
  pub listed : ListLies s list_span 1 (colours_of s)
  pub colours : r.sheet.colours ≡ (colours_of s).colours
  pub then : ℕ
  pub ticketed : number_at s (colours_of s).next ≡ Value r.sheet.ticket then
  pub at : ℕ
  pub most : r.sheet.most ≡ greatest_of press
  pub sized : SizeLies s then (greatest_of press) r.sheet.size at
  pub read : CellsRead
  pub filled : CellsLie s (colours_of s).colours.count (farthest press) no_cells 0 at (r.sheet.size.rows * r.sheet.size.cols) read
  pub cells : r.sheet.cells ≡ read.cells
  pub ended : length s ≤ read.next

-- a refused one is none, and the refusal names what it blames
pub record SheetRefused (press : ℕ) (s : List ℕ) (r : SheetRead) : Type 0 where
  pub blamed : Blamed s (farthest press) r.fault
  pub none : r.sheet ≡ no_sheet

module _ (press : ℕ) (s : List ℕ) where
  abbrev Ended : SheetRead → Type 0
  Ended r = Staged press s r ⊎ SheetRefused press s r

  filled-ended : (ticket then : ℕ) (size : Size) (at : ℕ) → ListLies s list_span 1 (colours_of s) → number_at s (colours_of s).next ≡ Value ticket then
      → SizeLies s then (greatest_of press) size at
      → Ended (filled_at s (greatest_of press) (colours_of s).colours ticket size (cells_at s (colours_of s).colours.count at (size.rows * size.cols)))
  unfolding filled_at
  filled-ended ticket then size at l e z =
      let n = (colours_of s).colours.count in
      let count = size.rows * size.cols in
      let q = cells_at s n at count in
      let near : at + 3 * count ≤ farthest press = omega (arith, within-area z.within, z.near, (number-lies s _ ticket then e).near, l.near) in
      pick_ind Ended (eqb q.fault.number 0) _ _
      (λ t. let f = cells-lie s n (farthest press) at count z.inside near (eqb-true _ _ t) in
      pick_ind Ended (ltb q.next (length s)) _ _
      (λ _. inr (record { blamed = record { some = omega arith; known = omega arith; inside = f.inside; near = f.near }; none = refl }))
      (λ u. inl (record {
        fine = refl;
        listed = l;
        colours = refl;
        then = then;
        ticketed = e;
        at = at;
        most = refl;
        sized = z;
        read = q;
        filled = f;
        cells = refl;
        ended = ltb-false _ _ u;
      })))
      (λ t. inr (record { blamed = cells-refused s n (farthest press) at count z.inside near (eqb-false _ _ t); none = refl }))

  sheet-ended : Ended (sheet_of press s)
  unfolding sheet_of
  sheet-ended =
      pick_ind Ended (eqb (colours_of s).fault.number 0) _ _
      (λ t.
      let l = colours-lie s (eqb-true _ _ t) in
      let at = (colours_of s).next in
      onward-ind Ended refused_sheet (number_at s at) _
      (λ f e. inr (record { blamed = blamed-later (omega (arith, l.near)) (number-refused s at f e); none = refl }))
      (λ ticket then e.
      after_size-ind Ended refused_sheet (size_at s then (greatest_of press)) _
      (λ f d. inr (record { blamed = blamed-later (omega (arith, l.near, (number-lies s at ticket then e).near)) (size-refused s then (greatest_of press) f d); none = refl }))
      (λ size next d. filled-ended ticket then size next l e (size-lies s then (greatest_of press) size next d))))
      (λ t. inr (record { blamed = blamed-later (omega arith) (colours-refused s (eqb-false _ _ t)).blamed; none = refl }))

  pub sheet-staged : (sheet_of press s).fault.number ≡ 0 → Staged press s (sheet_of press s)
  sheet-staged z = ⊎_elim (λ t. t) (λ r. absurd (omega (arith, r.blamed.some))) sheet-ended

  pub sheet-refused : ((sheet_of press s).fault.number ≡ 0 → ⊥) → SheetRefused press s (sheet_of press s)
  sheet-refused z = ⊎_elim (λ t. absurd (z (ap (λ (f : Fault). f.number) t.fine))) (λ r. r) sheet-ended

-- ── The bounds of a sheet ──

pub record SheetLies (press : ℕ) (s : List ℕ) (r : SheetRead) : Type 0 where
  pub fine : r.fault ≡ fault 0 0
  pub places : Places s r.sheet.colours
  pub some : 1 ≤ r.sheet.colours.count
  pub ticket_few : r.sheet.ticket ≤ greatest_number
  pub most : r.sheet.most ≡ greatest_of press
  pub within : Within (greatest_of press) r.sheet.size.rows r.sheet.size.cols
  pub area_few : r.sheet.size.rows * r.sheet.size.cols ≤ room
  pub cells_all : length r.sheet.cells ≡ room
  pub cells_end : drop (r.sheet.size.rows * r.sheet.size.cols) r.sheet.cells ≡ drop (r.sheet.size.rows * r.sheet.size.cols) no_cells
  pub cells_fit : (i : ℕ) → i < r.sheet.size.rows * r.sheet.size.cols → get_or r.sheet.cells i 0 < r.sheet.colours.count

-- the cells that stand are the numbers that were read, and the others are none
module _ (press : ℕ) (s : List ℕ) (r : SheetRead) (g : Staged press s r) where
  few-cells : length g.filled.new ≤ length no_cells
  few-cells = omega (arith, g.filled.count, within-room press g.sized.within, no_cells_lem)

  pub staged-cells : take (r.sheet.size.rows * r.sheet.size.cols) r.sheet.cells ≡ g.filled.new
  staged-cells = rw (g.cells, g.filled.stored, ← g.filled.count) (stored-first no_cells g.filled.new few-cells)

  staged-end : drop (r.sheet.size.rows * r.sheet.size.cols) r.sheet.cells ≡ drop (r.sheet.size.rows * r.sheet.size.cols) no_cells
  staged-end = rw (g.cells, g.filled.stored, ← g.filled.count) (stored-end no_cells g.filled.new few-cells)

pub sheet-lies : (press : ℕ) (s : List ℕ) → (sheet_of press s).fault.number ≡ 0 → SheetLies press s (sheet_of press s)
sheet-lies press s z =
    let r = sheet_of press s in
    let g = sheet-staged press s z in
    record {
      fine = g.fine;
      places = rw g.colours g.listed.places;
      some = rw g.colours g.listed.some;
      ticket_few = number-most s _ _ _ g.ticketed;
      most = g.most;
      within = g.sized.within;
      area_few = within-room press g.sized.within;
      cells_all = rw (g.cells, g.filled.stored) (length-sets no_cells 0 g.filled.new ∙ no_cells_lem);
      cells_end = staged-end press s r g;
      cells_fit = λ i h.
          rw (g.colours, ← get_or-take (r.sheet.size.rows * r.sheet.size.cols) r.sheet.cells i 0 h, staged-cells press s r g)
          (g.filled.fit i (omega (arith, g.filled.count)));
    }

-- refused or not, every place of a name of a sheet lies within the input
pub sheet-places : (press : ℕ) (s : List ℕ) → Places s (sheet_of press s).sheet.colours
sheet-places press s =
    ⊎_elim
    (λ t. (sheet-lies press s (eqb-true (sheet_of press s).fault.number 0 t)).places)
    (λ t. rw (sheet-refused press s (eqb-false (sheet_of press s).fault.number 0 t)).none (places-none s))
    (true-or-false (eqb (sheet_of press s).fault.number 0))

-- refused or not, the ticket is a number
pub sheet-ticket : (press : ℕ) (s : List ℕ) → (sheet_of press s).sheet.ticket ≤ greatest_number
sheet-ticket press s =
    ⊎_elim (λ t. number-most s _ _ _ t.ticketed) (λ r. rw r.none (omega arith)) (sheet-ended press s)

-- refused or not, the size is within the greatest of the press
pub size_few : (press : ℕ) (s : List ℕ) → ((size_of press s).rows ≤ greatest_of press) × ((size_of press s).cols ≤ greatest_of press)
size_few press s =
    ⊎_elim
    (λ z. let lies = sheet-lies press s z in (lies.within.rows_few, lies.within.cols_few))
    (λ p. rw (sheet-refused press s (λ z. omega arith)).none (omega arith, omega arith))
    (eq-zero-or-pos (sheet_of press s).fault.number)

-- ── The press ──

module _ (press : ℕ) (s : List ℕ) where
  -- a sheet is accepted on a press that there is, ...
  pub sheet-press : (sheet_of press s).fault.number ≡ 0 → IsPress press
  sheet-press z = let w = (sheet-lies press s z).within in (greatest-some press).1 (omega (arith, w.rows_some, w.rows_few))

  -- ... and on no other is there a sheet
  pub no-press-none : (IsPress press → ⊥) → (sheet_of press s).sheet ≡ no_sheet
  no-press-none n = (sheet-refused press s (λ z. n (sheet-press z))).none
