-- The ticket of a sheet has no part in what is derived: sheets that differ in it alone are the same picture, and derivation goes by the picture.
use Prim.Native.Nat.{ℕ, ◌≤◌}
use mathlib.Core.Path.{◌≡◌, refl, sym, ap, ◌∙◌}
use mathlib.Core.List.{List}
use mathlib.Core.Logic.{◌↔◌}
use Rattle.names.specs.Number.{greatest_number}
use Rattle.books.specs.Contents.{Contents}
use Rattle.books.specs.Grid.{Grid, GridKeeps, picture}
use Rattle.books.specs.Derives.{Derives}
use Rattle.books.specs.Lent.{lent_book, lent_both}
use Rattle.books.specs.Picture.{Picture}
use Rattle.books.specs.Tickets.{with_ticket, SameButTicket}
use Rattle.books.specs.declared.answer.Answer.{Answer}
use Rattle.books.proofs.LentEnds.{by-picture}
use Rattle.books.proofs.SamePictures.{same_refl, same-derives}

pub same-picture : (n : ℕ) (g : Grid) → picture (with_ticket n g) ≡ picture g
same-picture n g = refl

pub ticket-derives : (b : Contents) (a n : ℕ) (g : Grid) → Derives b a (picture (with_ticket n g)) ↔ Derives b a (picture g)
ticket-derives b a n g = same-derives (same_refl (picture g))

pub ticket-keeps : (press n : ℕ) (g : Grid) → n ≤ greatest_number → GridKeeps press g → GridKeeps press (with_ticket n g)
ticket-keeps press n g h k =
    record {
      colours_ok = k.colours_ok;
      ticket_few = h;
      within = k.within;
      cells_all = k.cells_all;
      cells_fit = k.cells_fit;
    }

-- ── As bytes ──

-- every call does the same with both, whatever the book
pub ticket-alike : {A : Type 0} (press : ℕ) (book s t : List ℕ) (refuse : Answer → A) (go : Contents → Picture → A) → SameButTicket press s t
    → lent_both press book t refuse go ≡ lent_both press book s refuse go
ticket-alike press book s t refuse go x =
    by-picture press refuse book t go x.second_fine
    ∙ ap (λ (p : Picture). lent_book 1 book refuse (λ b. go b p)) (ap picture x.else_same)
    ∙ sym (by-picture press refuse book s go x.first_fine)
