-- What callers use of the numbers of a sheet's cells: each stands at its cell's place, whatever stood in the array.
use Prim.Native.Nat.{ℕ, zero, suc, ◌+◌, ◌*◌, ◌<◌, ◌≤◌}
use mathlib.Core.Path.{◌≡◌, refl, ◌∙◌, ap, ap₂}
use mathlib.Core.List.{List, [], ◌∷◌, map, ◌++◌, map-append, append_assoc}
use native.Mathlib.Numerals.{add-one}
use native.Mathlib.Omega.{arith}
use borrow.Author.Tests.{ltb-false, le-ltb}
use lib.Dec.{ltb}
use lib.ListN.{length, get_or, get_or-replicate, replicate, take, drop, set, length-append, length-drop, length-map, get_or-append}
use lib.Seq.{length-take-le, take-suc, drop-cons, set_at, get_or_at, get_or-take}
use Rattle.std.specs.Prelude.{Option, Some, None}
use Rattle.std.specs.Option.{unwrap_or}
use Rattle.names.specs.Colours.{name_in}
use Rattle.names.specs.Told.{told_found}
use Rattle.names.specs.Spelling.{most_colours}
use Rattle.names.specs.declared.colours.Colours.{Colours}
use Rattle.names.proofs.Finding.{find-few}
use Rattle.names.proofs.Picking.{pick_ind}
use Rattle.books.specs.Cells.{no_cells}
use Rattle.books.specs.Numbering.{number_of, numbers_of, numbers_for, Numbers}
use Rattle.books.specs.Sheet.{sheet_of, over}
use Rattle.books.specs.Size.{room}
use Rattle.books.specs.declared.sheet.Sheet.{Sheet}
use Rattle.books.specs.SheetRead.{SheetFigures, SheetRead}
use Rattle.books.specs.inner.Key.{Key, numbered}
use Rattle.books.proofs.ReadingCells.{no_cells_lem}
use Rattle.books.proofs.CellsOver.{SheetFits, sheet-cells, over-fresh, cells-room}

-- ── The first cells numbered, over what stands after them ──

module _ (f : ℕ → ℕ) (cells base : List ℕ) where
  abbrev begun : ℕ → List ℕ
  begun i = map f (take i cells) ++ drop i base

  first-size : (i : ℕ) → i ≤ length cells → length (map f (take i cells)) ≡ i
  first-size i h = length-map (take i cells) f ∙ length-take-le i cells h

  begun-size : (i : ℕ) → i ≤ length cells → i ≤ length base → length (begun i) ≡ length base
  begun-size i h g = simp length-append (omega (arith, first-size i h, length-drop i base))

  mapped_at : (l : List ℕ) (i : ℕ) → i < length (map f l) → get_or (map f l) i 0 ≡ f (get_or l i 0)
  mapped_at [] i h = absurd (omega arith)
  mapped_at (x ∷ l) zero h = refl
  mapped_at (x ∷ l) (suc i) h = mapped_at l i (omega arith)

  begun-at : (n i : ℕ) → i < n → n ≤ length cells → get_or (begun n) i 0 ≡ f (get_or cells i 0)
  begun-at n i h g =
      let size : i < length (map f (take n cells)) = omega (arith, first-size n g) in
      get_or-append (map f (take n cells)) (drop n base) 0 i size ∙ mapped_at (take n cells) i size ∙ ap f (get_or-take n cells i 0 h)

  -- one cell more gets its number
  pub one-numbered : (i : ℕ) → i < length cells → i < length base → set (begun i) i (f (get_or cells i 0)) ≡ begun (i + 1)
  one-numbered i h g =
      let size : length (map f (take i cells)) ≡ i = first-size i (omega arith) in
      rw (drop-cons base i 0 g, set_at (map f (take i cells)) _ _ _ i size, add-one, take-suc cells i 0 h, map-append, append_assoc)

-- a cell that has no number yet is as it was
pub not_yet : (f : ℕ → ℕ) (cells : List ℕ) (i : ℕ) → i < length cells → get_or (numbered f i cells) i 0 ≡ get_or cells i 0
not_yet f cells i h = rw (drop-cons cells i 0 h) (get_or_at (map f (take i cells)) _ _ 0 i (first-size f cells cells i (omega arith)))

-- two ways to number that agree on the cells
same_numbers : (f h : ℕ → ℕ) (l : List ℕ) → ((i : ℕ) → i < length l → f (get_or l i 0) ≡ h (get_or l i 0)) → map f l ≡ map h l
same_numbers f h [] e = refl
same_numbers f h (x ∷ l) e = ap₂ (λ (v : ℕ) (r : List ℕ). v ∷ r) (e 0 (omega arith)) (same_numbers f h l (λ i p. e (suc i) (omega arith)))

-- a colour that was looked for, or the count where there is none
pub unwrapped : (count : ℕ) (r : Option ℕ) → unwrap_or r count ≡ told_found count r
unwrapped count (Some j) = refl
unwrapped count None = refl

-- ── The numbers of a sheet ──

pub number_at : (book : List ℕ) (c : Colours) (sheet : List ℕ) (g : Sheet) (i : ℕ) → i < g.size.rows * g.size.cols
    → g.size.rows * g.size.cols ≤ length g.cells → get_or (numbers_of book c sheet g) i 0 ≡ number_of book c sheet g.colours (get_or g.cells i 0)
number_at book c sheet g i h few = begun-at (number_of book c sheet g.colours) g.cells g.cells (g.size.rows * g.size.cols) i h few

pub numbers_all : (book : List ℕ) (c : Colours) (sheet : List ℕ) (g : Sheet) → g.size.rows * g.size.cols ≤ length g.cells
    → length (numbers_of book c sheet g) ≡ length g.cells
numbers_all book c sheet g few =
    begun-size (number_of book c sheet g.colours) g.cells g.cells (g.size.rows * g.size.cols) few few

-- by at most 64 colours the cells are numbered
pub numbers_for_lem : (book : List ℕ) (c : Colours) (sheet : List ℕ) (g : Sheet) → c.count ≤ most_colours → numbers_for book c sheet g ≡ numbers_of book c sheet g
numbers_for_lem book c sheet g few = rw (le-ltb most_colours c.count few)

-- cells that are numbered by a whole key have the numbers of the sheet
pub key-numbers : (book : List ℕ) (c : Colours) (sheet : List ℕ) (g : Sheet) (key : List ℕ) → SheetFits g → Key book c sheet g.colours g.colours.count key
    → numbered (λ (v : ℕ). get_or key v 0) (g.size.rows * g.size.cols) g.cells ≡ numbers_of book c sheet g
key-numbers book c sheet g key fit k =
    let n = g.size.rows * g.size.cols in
    let there : length (take n g.cells) ≡ n = length-take-le n g.cells fit.cells_all in
    let low : (i : ℕ) → i < length (take n g.cells) → get_or (take n g.cells) i 0 < g.colours.count =
    λ i h. rw (get_or-take n g.cells i 0 (omega arith)) (fit.cells_fit i (omega arith)) in
    ap (λ (x : List ℕ). x ++ drop n g.cells)
    (same_numbers (λ (v : ℕ). get_or key v 0) (number_of book c sheet g.colours) (take n g.cells) (λ i h. k.numbers _ (low i h)))

module _ (press : ℕ) (book : List ℕ) (c : Colours) (sheet : List ℕ) where
  -- a fresh array is left with the numbers of the sheet
  pub numbers-fresh : {r : SheetFigures} {numbers : List ℕ} → Numbers press book c sheet (replicate room 0) r numbers
      → numbers ≡ numbers_for book c sheet (sheet_of press sheet).sheet
  unfolding no_cells
  numbers-fresh shown = shown.cells ∙ ap (λ (r : SheetRead). numbers_for book c sheet r.sheet) (over-fresh press sheet)

  pub numbers-room : length (numbers_for book c sheet (sheet_of press sheet).sheet) ≡ room
  numbers-room =
      pick_ind (λ (l : List ℕ). length l ≡ room) (ltb most_colours c.count) no_cells (numbers_of book c sheet (sheet_of press sheet).sheet)
      (λ _. no_cells_lem)
      (λ _.
      let all = cells-room press sheet in
      numbers_all book c sheet (sheet_of press sheet).sheet (omega (arith, (sheet-cells no_cells press sheet).area_few, all)) ∙ all)

  pub fresh-room : {r : SheetFigures} {numbers : List ℕ} → Numbers press book c sheet (replicate room 0) r numbers → length numbers ≡ room
  fresh-room shown = ap length (numbers-fresh shown) ∙ numbers-room

  -- there is a number for each cell, whatever stood in the array
  pub numbers-long : (before : List ℕ)
      → (sheet_of press sheet).sheet.size.rows * (sheet_of press sheet).sheet.size.cols ≤ length (numbers_for book c sheet (over before (sheet_of press sheet)).sheet)
  numbers-long before =
      let g = (over before (sheet_of press sheet)).sheet in
      let fit = sheet-cells before press sheet in
      pick_ind (λ (l : List ℕ). g.size.rows * g.size.cols ≤ length l) (ltb most_colours c.count) no_cells (numbers_of book c sheet g)
      (λ _. omega (arith, fit.area_few, no_cells_lem))
      (λ _. omega (arith, fit.cells_all, numbers_all book c sheet g fit.cells_all))

  -- a cell's number is at most 64
  pub numbers-few : (before : List ℕ) (i : ℕ) → i < (sheet_of press sheet).sheet.size.rows * (sheet_of press sheet).sheet.size.cols
      → get_or (numbers_for book c sheet (over before (sheet_of press sheet)).sheet) i 0 ≤ most_colours
  unfolding no_cells
  numbers-few before i h =
      let g = (over before (sheet_of press sheet)).sheet in
      let fit = sheet-cells before press sheet in
      pick_ind (λ (l : List ℕ). get_or l i 0 ≤ most_colours) (ltb most_colours c.count) no_cells (numbers_of book c sheet g)
      (λ _. omega (arith, get_or-replicate {A = ℕ} room i 0 0 (omega (arith, fit.area_few))))
      (λ e. omega (
        arith,
        number_at book c sheet g i h fit.cells_all,
        find-few book c (name_in sheet g.colours (get_or g.cells i 0)),
        ltb-false most_colours c.count e,
      ))
