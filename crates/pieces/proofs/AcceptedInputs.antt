-- Reading gives what the table asks: rules that fit their masks, and for each cell the number of its colour.
use Prim.Native.Nat.{ℕ, ◌≤◌, ◌<◌}
use mathlib.Core.Path.{◌≡◌, ◌∙◌, ap}
use mathlib.Core.List.{List}
use native.Mathlib.Omega.{arith}
use lib.ListN.{length, get_or}
use lib.Seq.{get_or-take, length-take-le}
use Rattle.names.specs.Spelling.{most_colours}
use Rattle.names.specs.Bytes.{Bytes}
use Rattle.books.specs.Book.{book_of}
use Rattle.books.specs.Keeps.{BodyFits, most_motifs}
use Rattle.books.specs.Lent.{contents_of}
use Rattle.books.specs.Numbering.{number_of, numbers_of}
use Rattle.books.specs.Rules.{no_rule}
use Rattle.books.specs.Sheet.{sheet_of, over}
use Rattle.books.specs.declared.family.Family.{Family}
use Rattle.books.specs.declared.sheet.Sheet.{Sheet}
use Rattle.books.specs.declared.rule.Body.{Body}
use Rattle.books.specs.declared.rule.Body.TheVariants.{Colour, Across, Down}
use Rattle.books.proofs.CellsOver.{over-long, over-at}
use Rattle.books.proofs.NumberedCells.{number_at, numbers_all}
use Rattle.books.proofs.ReadingBooks.{book-lies, book-accepted}
use Rattle.books.proofs.ReadingSheets.{sheet-lies}
use Rattle.books.proofs.SpellingSheets.{sheet-accepted}
use Rattle.pieces.specs.inner.Small.{SmallRules}
use Rattle.pieces.proofs.WholeTable.{AsRead, Numbered}

-- a rule of a book with no more motifs and colours than a book can have
body-small : (m n : ℕ) (x : Body) → m ≤ most_motifs → n ≤ most_colours → BodyFits m n x → BodyFits most_motifs most_colours x
body-small m n (Colour c) h k f = omega arith
body-small m n (Across l r) h k f = (omega arith, omega arith)
body-small m n (Down u v) h k f = (omega arith, omega arith)

module _ (book : List ℕ) (book_fine : (book_of book).fault.number ≡ 0) where
  abbrev f : Family
  f = (book_of book).family

  pub rules-read : SmallRules (contents_of book).rules
  rules-read =
      let k = book-lies book book_fine in
      let all : length (contents_of book).rules ≡ f.count = length-take-le f.count f.rules (omega (arith, k.rules_few, k.rules_size)) in
      record {
        few = omega (arith, all, k.rules_few);
        small = λ i h.
            let low : i < f.count = omega (arith, all) in
            let fits = k.rules_fit i low in
            rw (get_or-take f.count f.rules i no_rule low)
            (record {
              head_fits = omega (arith, fits.head_fits, k.motifs_few);
              body_fits = body-small _ _ (get_or f.rules i no_rule).body k.motifs_few k.places.few fits.body_fits;
            });
      }

  module _ (press : ℕ) (sheet : List ℕ) (sheet_fine : (sheet_of press sheet).fault.number ≡ 0) where
    abbrev g : Sheet
    g = (sheet_of press sheet).sheet

    pub as_read : Bytes book → Bytes sheet → AsRead press book f sheet g
    as_read bytes_book bytes_sheet =
        record { book_keeps = (book-accepted book bytes_book book_fine).keeps; sheet_keeps = (sheet-accepted press sheet bytes_sheet sheet_fine).keeps }

    pub cells-numbered : Numbered book f sheet g (numbers_of book f.colours sheet g)
    cells-numbered =
        let s = sheet-lies press sheet sheet_fine in
        record {
          all = omega (arith, s.area_few, s.cells_all, numbers_all book f.colours sheet g (omega (arith, s.area_few, s.cells_all)));
          each = λ i h. number_at book f.colours sheet g i h (omega (arith, s.area_few, s.cells_all));
        }

    -- the same over what stood in an array
    pub cells_over : (before : List ℕ) → Numbered book f sheet g (numbers_of book f.colours sheet (over before (sheet_of press sheet)).sheet)
    cells_over before =
        let long = over-long before press sheet sheet_fine in
        let r = (over before (sheet_of press sheet)).sheet in
        record {
          all = omega (arith, long, numbers_all book f.colours sheet r long);
          each = λ i h. number_at book f.colours sheet r i h long ∙ ap (number_of book f.colours sheet g.colours) (over-at before press sheet sheet_fine i h);
        }
