-- The parts of a sheet together are the sheet again, so that nothing of it is left out; and a sheet is what its stages make of it, one after the other.
use Prim.Native.Nat.{ℕ, ◌*◌, ◌<◌, ◌≤◌}
use mathlib.Core.Path.{◌≡◌, refl, sym, ap, ◌∙◌}
use mathlib.Core.List.{List}
use native.Mathlib.Nat.{mul-pos}
use native.Mathlib.Omega.{arith}
use borrow.Author.Tests.{eq-eqb, ne_eqb, lt-ltb, le-ltb}
use lib.ListN.{length, replicate}
use Rattle.std.specs.Prelude.{Result, Ok, Err, IfErr, is_err, true}
use Rattle.names.specs.Pick.{fault}
use Rattle.names.specs.Colours.{list_of, colours_of}
use Rattle.names.specs.Number.{number_at}
use Rattle.names.specs.ColoursRead.{ColoursRead}
use Rattle.names.specs.Fault.{Fault, told_fault}
use Rattle.names.specs.Spelling.{most_colours}
use Rattle.names.specs.declared.fault.Fault.{Fault as CodeFault}
use Rattle.names.specs.Read.{Value, Refused}
use Rattle.books.specs.Cells.{CellsRead, no_cells, cells_at, cells_onward}
use Rattle.books.specs.Press.{greatest_of}
use Rattle.books.specs.Sheet.{refused_sheet, filled_at, sheet_of, over, SheetInto}
use Rattle.books.specs.Size.{room, Within, size_at}
use Rattle.books.specs.SheetRead.{SheetFigures, SheetRead}
use Rattle.books.specs.SizeRead.{By, Refused as RefusedSize}
use Rattle.books.specs.Told.{told_figures}
use Rattle.books.specs.declared.sheet.Sheet.{Sheet}
use Rattle.books.specs.declared.sheet.SheetFigures.{SheetFigures as CodeSheetFigures}
use Rattle.books.specs.declared.size.Size.{Size}
use Rattle.books.proofs.Area.{within-room}
use Rattle.books.proofs.ReadingCells.{over-fault, over-next, over-cells}
use Rattle.books.proofs.ReadingSheets.{sheet-refused}
use Rattle.books.proofs.ReadingSizes.{size-lies}

abbrev pub together : SheetFigures → List ℕ → List ℕ → List ℕ → SheetRead
together r places sizes numbers =
    record {
      fault = r.fault;
      sheet = record { colours = list_of r.colours places sizes; ticket = r.ticket; most = r.most; size = r.size; cells = numbers };
    }

pub sheet-whole : {g : SheetRead} {r : SheetFigures} {places sizes numbers : List ℕ} → SheetInto g r places sizes numbers
    → together r places sizes numbers ≡ g
sheet-whole t = simp (t.figures, t.starts, t.lens, t.cells)

-- a refused sheet is told by its fault alone
pub refused-whole : (press : ℕ) (s : List ℕ) (f : Fault) → (f.number ≡ 0 → ⊥) → f ≡ (sheet_of press s).fault → refused_sheet f ≡ sheet_of press s
refused-whole press s f some e =
    let none = (sheet-refused press s (λ z. some (ap (λ (f : Fault). f.number) e ∙ z))).none in
    ap refused_sheet e ∙ ap (λ (g : Sheet). record { fault = (sheet_of press s).fault; sheet = g }) (sym none)

-- and leaves arrays that are cleared
pub cleared : (press : ℕ) (s before : List ℕ) (r : Result CodeSheetFigures CodeFault) → is_err r ≡ true → IfErr r (λ f. sheet_of press s ≡ refused_sheet (told_fault f))
    → SheetInto (over before (sheet_of press s)) (told_figures r) (replicate most_colours 0) (replicate most_colours 0) (replicate room 0)
unfolding no_cells
cleared press s before (Ok g) e h = cc
cleared press s before (Err f) e h = rw h (record { figures = refl; starts = refl; lens = refl; cells = refl })

-- ── Stage by stage ──

module _ (press : ℕ) (s : List ℕ) {c : ColoursRead} (read : c ≡ colours_of s) where
  pub list-refused : (c.fault.number ≡ 0 → ⊥) → sheet_of press s ≡ refused_sheet c.fault
  unfolding sheet_of
  list-refused n = rw (← read, ne_eqb _ _ n)

  module _ (fine : c.fault.number ≡ 0) where
    pub ticket-refused : {f : Fault} → number_at s c.next ≡ Refused f → sheet_of press s ≡ refused_sheet f
    unfolding sheet_of
    ticket-refused e = rw (← read, eq-eqb _ _ fine, e)

    module _ {ticket then : ℕ} (told : number_at s c.next ≡ Value ticket then) where
      pub size-refused : {f : Fault} → size_at s then (greatest_of press) ≡ RefusedSize f → sheet_of press s ≡ refused_sheet f
      unfolding sheet_of
      size-refused e = rw (← read, eq-eqb _ _ fine, told, e)

      module _ {size : Size} {next : ℕ} (sized : size_at s then (greatest_of press) ≡ By size next) where
        abbrev count : ℕ
        count = size.rows * size.cols

        within : Within (greatest_of press) size.rows size.cols
        within = (size-lies s then (greatest_of press) size next sized).within

        pub area-few : size.rows * size.cols ≤ room
        area-few = within-room press within

        cells-last : sheet_of press s ≡ filled_at s (greatest_of press) c.colours ticket size (cells_at s c.colours.count next count)
        unfolding sheet_of
        cells-last = rw (← read, eq-eqb _ _ fine, told, sized)

        -- the cells that were read, whatever the array held
        module _ (before : List ℕ) {cells : CellsRead} (filled : cells ≡ cells_onward s c.colours.count before 0 next (size.rows * size.cols)) where
          fault-is : (cells_at s c.colours.count next count).fault ≡ cells.fault
          fault-is = sym (ap (λ (r : CellsRead). r.fault) filled ∙ over-fault s c.colours.count next count before)

          next-is : (cells_at s c.colours.count next count).next ≡ cells.next
          next-is = sym (ap (λ (r : CellsRead). r.next) filled ∙ over-next s c.colours.count next count before)

          pub cells-refused : (cells.fault.number ≡ 0 → ⊥) → sheet_of press s ≡ refused_sheet cells.fault
          unfolding filled_at
          cells-refused n = cells-last ∙ simp (fault-is, ne_eqb _ _ n)

          module _ (z : cells.fault.number ≡ 0) where
            pub more-follows : cells.next < length s → sheet_of press s ≡ refused_sheet (fault 8 cells.next)
            unfolding filled_at
            more-follows h = cells-last ∙ simp (fault-is, eq-eqb _ _ z, next-is, lt-ltb _ _ h)

            pub sheet-read : length before ≡ room → length s ≤ cells.next
                → SheetInto (over before (sheet_of press s)) (record { fault = fault 0 0; colours = c.colours.count; ticket = ticket; most = greatest_of press; size = size })
                c.colours.starts c.colours.lens cells.cells
            unfolding filled_at
            sheet-read all h =
                let some : (count ≡ 0 → ⊥) = λ e. absurd (omega (arith, mul-pos within.rows_some within.cols_some)) in
                let accepted : (cells_at s c.colours.count next count).fault.number ≡ 0 = omega (arith, ap (λ (f : Fault). f.number) fault-is, z) in
                let put = over-cells s c.colours.count next count before all area-few accepted in
                rw cells-last
                (simp (fault-is, eq-eqb _ _ z, next-is, le-ltb _ _ h, ne_eqb count 0 some)
                (record { figures = refl; starts = refl; lens = refl; cells = ap (λ (r : CellsRead). r.cells) filled ∙ put }))
