-- A sheet that one press takes is taken by a press with no fewer rows and columns, and shows the same there: it is the spelling of contents that keep the rules of
-- both. So every call does the same with it on both.
use Prim.Native.Nat.{ℕ, ◌≤◌}
use mathlib.Core.Path.{◌≡◌, sym, ap, ◌∙◌, subst}
use mathlib.Core.List.{List}
use Rattle.names.specs.Bytes.{Bytes}
use Rattle.names.specs.Pick.{fault}
use Rattle.names.specs.Fault.{Fault}
use Rattle.books.specs.Contents.{Contents}
use Rattle.books.specs.ContentsIn.{grid_in}
use Rattle.books.specs.Grid.{Grid, GridKeeps, picture}
use Rattle.books.specs.Lent.{lent_book, lent_both}
use Rattle.books.specs.Picture.{Picture}
use Rattle.books.specs.Press.{greatest_of}
use Rattle.books.specs.Sheet.{sheet_of}
use Rattle.books.specs.declared.answer.Answer.{Answer}
use Rattle.books.proofs.LentEnds.{by-picture}
use Rattle.books.proofs.SizesWithin.{within_more}
use Rattle.books.proofs.SpellingSheets.{sheet-accepted, sheet-read-back}

module _ (press wider : ℕ) (more : greatest_of press ≤ greatest_of wider) (s : List ℕ) (bytes : Bytes s) (fine : (sheet_of press s).fault.number ≡ 0) where
  abbrev shown : Grid
  shown = grid_in s (sheet_of press s).sheet

  keeps : GridKeeps wider shown
  keeps =
      let k = (sheet-accepted press s bytes fine).keeps in
      record { colours_ok = k.colours_ok; ticket_few = k.ticket_few; within = within_more more k.within; cells_all = k.cells_all; cells_fit = k.cells_fit }

  pub wider-reads : ((sheet_of wider s).fault ≡ fault 0 0) × (grid_in s (sheet_of wider s).sheet ≡ shown)
  wider-reads =
      subst (λ (t : List ℕ). ((sheet_of wider t).fault ≡ fault 0 0) × (grid_in t (sheet_of wider t).sheet ≡ shown)) (sym (sheet-accepted press s bytes fine).spelled)
      (sheet-read-back wider shown keeps)

  pub wider-alike : {A : Type 0} (book : List ℕ) (refuse : Answer → A) (go : Contents → Picture → A) → lent_both wider book s refuse go ≡ lent_both press book s refuse go
  wider-alike book refuse go =
      by-picture wider refuse book s go (ap (λ (f : Fault). f.number) wider-reads.0)
      ∙ ap (λ (g : Grid). lent_book 1 book refuse (λ b. go b (picture g))) wider-reads.1
      ∙ sym (by-picture press refuse book s go fine)
