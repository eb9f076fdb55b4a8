-- The bytes of a sheet with one cell changed are read as its old contents with that cell: an accepted sheet is the spelling of its contents, a cell's number is one
-- byte, and so the changed bytes are the spelling of the changed contents.
use Prim.Native.Nat.{ℕ, suc, ◌+◌, ◌-◌, ◌*◌, ◌≤◌, ◌<◌}
use mathlib.Core.Path.{◌≡◌, refl, sym, ap, ap₂, ◌∙◌, subst}
use mathlib.Core.List.{List, [], ◌∷◌, ◌++◌, append_assoc}
use native.Mathlib.Nat.{zero-add, suc-add}
use native.Mathlib.Omega.{arith}
use native.Mathlib.Decide.{dec_lt, ℕ_discrete}
use borrow.Author.Tests.{lt-ltb}
use lib.ListN.{length, get_or, set, length-append, length-set}
use lib.Seq.{get_or-set_same, get_or-set_other, set_out}
use Rattle.names.specs.Bytes.{Bytes}
use Rattle.names.specs.Pick.{fault}
use Rattle.names.specs.Number.{spell_number}
use Rattle.names.specs.Spelling.{spell_colours}
use Rattle.names.specs.Fault.{Fault}
use Rattle.names.proofs.ReadingColours.{names-count}
use Rattle.books.specs.ContentsIn.{grid_in}
use Rattle.books.specs.Grid.{Grid, GridKeeps, picture}
use Rattle.books.specs.Lent.{picture_of}
use Rattle.books.specs.Picture.{Same}
use Rattle.books.specs.Sheet.{sheet_of}
use Rattle.books.specs.Size.{size_by}
use Rattle.books.specs.SpellSheet.{spell_cells, spell_sheet}
use Rattle.books.proofs.SpellingSheets.{sheet-accepted, sheet-read-back}
use Rattle.pieces.specs.Pieces.{piece, Inside}
use Rattle.pieces.specs.Table.{cut}
use Rattle.pieces.specs.Refill.{HasCell}
use Rattle.pieces.specs.declared.piece.Piece.{Piece}
use Rattle.pieces.proofs.CellsFirst.{slot-cell, cell-before}
use Rattle.pieces.proofs.Slots.{slot-inj}
use Rattle.desk.specs.Recolour.{with_cell, sheet_with}

-- ── The spelling of a sheet ends with its cells ──

cells-bytes : (vs : List ℕ) → ((i : ℕ) → i < length vs → get_or vs i 0 < 128) → spell_cells vs ≡ vs
unfolding spell_number
cells-bytes [] low = refl
cells-bytes (v ∷ vs) low = rw (lt-ltb v 128 (low 0 (omega arith))) (ap (λ (l : List ℕ). v ∷ l) (cells-bytes vs (λ i h. low (suc i) (omega arith))))

-- what stands before the cells
abbrev front : Grid → List ℕ
front g = spell_colours g.colours ++ (spell_number g.ticket ++ (spell_number g.rows ++ spell_number g.cols))

regroup : (a b c d e : List ℕ) → a ++ (b ++ (c ++ (d ++ e))) ≡ (a ++ (b ++ (c ++ d))) ++ e
regroup a b c d e =
    sym (append_assoc a (b ++ (c ++ d)) e ∙ ap (λ (l : List ℕ). a ++ l) (append_assoc b (c ++ d) e ∙ ap (λ (l : List ℕ). b ++ l) (append_assoc c d e)))

ends-with-cells : (press : ℕ) (g : Grid) → GridKeeps press g → spell_sheet g ≡ front g ++ g.cells
ends-with-cells press g keeps =
    let bytes = cells-bytes g.cells (λ i h. omega (arith, keeps.cells_fit i h, keeps.colours_ok.few)) in
    rw bytes (regroup (spell_colours g.colours) (spell_number g.ticket) (spell_number g.rows) (spell_number g.cols) g.cells)

set_past : (a b : List ℕ) (i v : ℕ) → set (a ++ b) (length a + i) v ≡ a ++ set b i v
set_past [] b i v = ap (λ (k : ℕ). set b k v) (zero-add i)
set_past (x ∷ a) b i v = ap (λ (k : ℕ). set (x ∷ (a ++ b)) k v) (suc-add (length a) i) ∙ ap (λ (l : List ℕ). x ∷ l) (set_past a b i v)

bytes-set : (s : List ℕ) (k v : ℕ) → Bytes s → v < 256 → Bytes (set s k v)
bytes-set s k v bytes low i = go (ℕ_discrete i k) (dec_lt k (length s))
  where
    go : Dec (i ≡ k) → Dec (k < length s) → get_or (set s k v) i 0 < 256
    go (no ne) h = rw (get_or-set_other s k i v 0 ne) (bytes i)
    go (yes e) (yes h) = rw (e, get_or-set_same s k v 0 h) low
    go (yes e) (no h) = rw (set_out s k v (omega arith)) (bytes i)

-- two cells with one place are one cell
one_place : (m n r c x y : ℕ) → r < m → c < n → x < m → y < n → r * n + c ≡ x * n + y → (r ≡ x) × (c ≡ y)
one_place m n r c x y hr hc hx hy e =
    let same = slot-inj m n (piece 1 1 r c) (piece 1 1 x y) (on r c hr hc) (on x y hx hy) (slot-cell m n r c ∙ e ∙ sym (slot-cell m n x y)) in
    (ap (λ (q : Piece). q.top) same, ap (λ (q : Piece). q.left) same)
  where
    on : (r c : ℕ) → r < m → c < n → Inside m n (piece 1 1 r c)
    on r c hr hc = record { tall = omega arith; wide = omega arith; low = omega arith; right = omega arith }

-- ── One cell changed ──

-- the contents with a cell changed
abbrev pub grid_with : Grid → ℕ → ℕ → ℕ → Grid
grid_with g row column colour =
    record { colours = g.colours; ticket = g.ticket; rows = g.rows; cols = g.cols; cells = set g.cells (row * g.cols + column) colour }

module _ (press : ℕ) (g : Grid) (keeps : GridKeeps press g) (row column colour : ℕ) (row_on : row < g.rows) (column_on : column < g.cols) (colour_in : colour < length g.colours) where
  abbrev i : ℕ
  i = row * g.cols + column

  there : i < length g.cells
  there = omega (arith, keeps.cells_all, cell-before g.rows g.cols row column row_on column_on)

  still-keeps : GridKeeps press (grid_with g row column colour)
  still-keeps = record {
    colours_ok = keeps.colours_ok;
    ticket_few = keeps.ticket_few;
    within = keeps.within;
    cells_all = length-set g.cells i colour ∙ keeps.cells_all;
    cells_fit = λ k h. fit k h (ℕ_discrete k i);
  }
    where
      fit : (k : ℕ) → k < length (set g.cells i colour) → Dec (k ≡ i) → get_or (set g.cells i colour) k 0 < length g.colours
      fit k h (yes e) = rw (e, get_or-set_same g.cells i colour 0 there) colour_in
      fit k h (no e) = rw (get_or-set_other g.cells i k colour 0 e) (keeps.cells_fit k (omega (arith, length-set g.cells i colour)))

  spelled-with : with_cell (spell_sheet g) (size_by g.rows g.cols) row column colour ≡ spell_sheet (grid_with g row column colour)
  spelled-with =
      let is = ends-with-cells press g keeps in
      let place : length (spell_sheet g) - g.rows * g.cols + i ≡ length (front g) + i =
      omega (arith, ap length is, length-append (front g) g.cells, keeps.cells_all) in
      ap₂ (λ (l : List ℕ) (k : ℕ). set l k colour) is place ∙ set_past (front g) g.cells i colour ∙ sym (ends-with-cells press (grid_with g row column colour) still-keeps)

  -- the picture shows another name at that cell alone
  other-cells : (r c : ℕ) → r < g.rows → c < g.cols → ((r ≡ row) × (c ≡ column) → ⊥) → (picture (grid_with g row column colour)).cell r c ≡ (picture g).cell r c
  other-cells r c hr hc ne =
      ap (λ (k : ℕ). get_or g.colours k [])
      (get_or-set_other g.cells i (r * g.cols + c) colour 0 (λ e. ne (one_place g.rows g.cols r c row column hr hc row_on column_on e)))

  pub same-piece : (q : Piece) → Inside g.rows g.cols q → (HasCell row column q → ⊥) → Same (cut (picture g) q) (cut (picture (grid_with g row column colour)) q)
  same-piece q inq far =
      record {
        same_rows = refl;
        same_cols = refl;
        same_cell = λ r c hr hc. sym (other-cells (q.top + r) (q.left + c) (omega (arith, inq.low)) (omega (arith, inq.right))
            (λ (e, f). far (record { from_top = omega arith; upto_bottom = omega arith; from_left = omega arith; upto_right = omega arith })));
      }

-- ── From the bytes ──

pub cells-inside : (press : ℕ) (sheet : List ℕ) → Bytes sheet → (sheet_of press sheet).fault.number ≡ 0 → (sheet_of press sheet).sheet.size.rows * (sheet_of press sheet).sheet.size.cols ≤ length sheet
cells-inside press sheet bytes fine =
    let a = sheet-accepted press sheet bytes fine in
    let g = grid_in sheet (sheet_of press sheet).sheet in
    omega (arith, ap length (a.spelled ∙ ends-with-cells press g a.keeps), length-append (front g) g.cells, a.keeps.cells_all)

module _ (press : ℕ) (sheet : List ℕ) (bytes : Bytes sheet) (fine : (sheet_of press sheet).fault.number ≡ 0) (row column colour : ℕ)
    (row_on : row < (sheet_of press sheet).sheet.size.rows) (column_on : column < (sheet_of press sheet).sheet.size.cols)
    (colour_in : colour < (sheet_of press sheet).sheet.colours.count) where
  abbrev g : Grid
  g = grid_in sheet (sheet_of press sheet).sheet

  abbrev changed : List ℕ
  changed = sheet_with press sheet row column colour

  named : colour < length g.colours
  named = omega (arith, names-count sheet (sheet_of press sheet).sheet.colours)

  pub keeps : GridKeeps press g
  keeps = (sheet-accepted press sheet bytes fine).keeps

  pub still-bytes : Bytes changed
  still-bytes = bytes-set sheet _ colour bytes (omega (arith, keeps.colours_ok.few, named))

  read_back : ((sheet_of press changed).fault ≡ fault 0 0) × (grid_in changed (sheet_of press changed).sheet ≡ grid_with g row column colour)
  read_back =
      let spelled = ap (λ (s : List ℕ). with_cell s (sheet_of press sheet).sheet.size row column colour) (sheet-accepted press sheet bytes fine).spelled
      ∙ spelled-with press g keeps row column colour row_on column_on named in
      rw spelled (sheet-read-back press (grid_with g row column colour) (still-keeps press g keeps row column colour row_on column_on named))

  pub still-fine : (sheet_of press changed).fault.number ≡ 0
  still-fine = ap (λ (f : Fault). f.number) read_back.0

  pub contents-with : grid_in changed (sheet_of press changed).sheet ≡ grid_with g row column colour
  contents-with = read_back.1

  -- the pieces without the cell show what they showed
  pub same-elsewhere : (q : Piece) → Inside g.rows g.cols q → (HasCell row column q → ⊥) → Same (cut (picture_of press sheet) q) (cut (picture_of press changed) q)
  same-elsewhere q inq far =
      subst (λ (x : Grid). Same (cut (picture g) q) (cut (picture x) q)) (sym contents-with) (same-piece press g keeps row column colour row_on column_on named q inq far)
