-- The sheet is read into the arrays. By more than 64 colours nothing is numbered. Else at each turn of the loop the first i colours of the sheet have
-- their numbers in the book, which are at most the count of its colours and so fit a byte; by the whole key the cells get the numbers of the definition.
use mathlib.Core.Path.{◌≡◌, refl, sym, ◌∙◌, ap, subst}
use native.Mathlib.Omega.{arith}
use borrow.Author.Count.{below_more}
use borrow.Author.Tests.{lt-ltb}
use lib.ListN.{length-set}
use lib.Seq.{get_or-set_same, get_or-set_other}
use Rattle.std.specs.Prelude.{Ok}
use Rattle.names.specs.Colours.{list_of}
use Rattle.names.specs.Spelling.{most_colours}
use Rattle.books.specs.Cells.{no_cells}
use Rattle.books.specs.Numbering.{number_of, numbers_for}
use Rattle.books.specs.inner.Key.{Key}
use Rattle.books.specs.Sheet.{sheet_of, over}
use Rattle.books.specs.SheetRead.{SheetRead}
use Rattle.books.specs.Told.{told_figures}
use Rattle.books.proofs.CellsOver.{SheetFits, sheet-cells}
use Rattle.books.proofs.NumberedCells.{unwrapped, numbers_for_lem, key-numbers}
use Rattle.books.proofs.SheetInParts.{together, sheet-whole}
use Rattle.books.proofs.numbering.number_sheet.Goals as goal
use Rattle.books.proofs.numbering.number_sheet.Goals.{In_ok-g, After-unwrap_or}

-- what was read, put together
abbrev read : In_ok-g → SheetRead
read c = let r = c.read_sheet_into in together (told_figures (Ok c.in_ok-g.g)) r.new.starts r.new.lens r.new.cells

read-is : (c : In_ok-g) → read c ≡ over c.args.cells.now (sheet_of c.args.press c.args.sheet.now)
read-is c = sheet-whole c.in_ok-g.ensures

fits : (c : In_ok-g) → SheetFits (read c).sheet
fits c = subst (λ (r : SheetRead). SheetFits r.sheet) (sym (read-is c)) (sheet-cells c.args.cells.now c.args.press c.args.sheet.now)

-- the number that was found is that of the turn's colour
found : (c : After-unwrap_or) → let a = c.args in
    c.unwrap_or.result ≡ number_of a.book.now (list_of a.count a.starts.now a.lens.now) a.sheet.now (list_of c.in_ok-g.g.colours c.read_sheet_into.new.starts c.read_sheet_into.new.lens) c.loop-i.i
found c =
    c.unwrap_or.ensures ∙ unwrapped c.args.count c.find_name.result ∙ c.find_name.ensures.found
    ∙ rw (c.front-name.ensures.holds, c.tail.ensures.holds, c.from.ensures, c.from-in-loop-i.ensures) refl

pub returns-then-count-gt-MOST_COLOURS : goal.returns-then-count-gt-MOST_COLOURS
unfolding no_cells
returns-then-count-gt-MOST_COLOURS c =
    record { figures = c.in_ok-g.ensures.figures; cells = rw (lt-ltb most_colours c.args.count c.if-count-gt-MOST_COLOURS.true) }

pub loop-i-init : goal.loop-i-init
loop-i-init c =
    record {
      key = record { size = refl; numbers = λ i h. absurd (omega arith) };
      few = (fits (goal.at.loop-i-init c).In_ok-g).colours_few;
    }

pub loop-i-preserved : goal.loop-i-preserved
loop-i-preserved c =
    let l = c.loop-i in
    let key = l.invariant.key in
    record {
      key = record {
        size = simp length-set key.size;
        numbers = below_more _ l.i
            (λ j h. get_or-set_other l.key l.i j _ 0 (omega arith) ∙ key.numbers j h)
            (get_or-set_same l.key l.i _ 0 (omega (arith, key.size)) ∙ found (goal.at.loop-i-preserved c).After-unwrap_or);
      };
      few = l.invariant.few;
    }

pub overflow_mul-g : goal.overflow_mul-g
overflow_mul-g c = omega (arith, (fits (goal.at.overflow_mul-g c).In_ok-g).area_few)

pub number_cells-requires : goal.number_cells-requires
number_cells-requires c =
    let fit = fits (goal.at.number_cells-requires c).In_ok-g in
    record { few = fit.area_few; all = fit.cells_all; fit = λ i h. omega (arith, fit.cells_fit i h, fit.colours_few) }

pub returns : goal.returns
returns c =
    let p = (goal.at.returns c).In_ok-g in
    let a = c.args in
    let listed = list_of a.count a.starts.now a.lens.now in
    let g = (read p).sheet in
    let key : Key a.book.now listed a.sheet.now g.colours g.colours.count c.loop-i.key =
    record { size = c.loop-i.invariant.key.size; numbers = λ j h. c.loop-i.invariant.key.numbers j (omega (arith, c.loop-i-test.false)) } in
    record {
      figures = c.in_ok-g.ensures.figures;
      cells = c.number_cells.ensures
          ∙ (key-numbers a.book.now listed a.sheet.now g c.loop-i.key (fits p) key
          ∙ (sym (numbers_for_lem a.book.now listed a.sheet.now g c.if-count-gt-MOST_COLOURS.false)
          ∙ ap (λ (x : SheetRead). numbers_for a.book.now listed a.sheet.now x.sheet) (read-is p)));
    }
