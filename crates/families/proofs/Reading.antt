-- The family of an accepted book is lent: the laws of reading say so.
use Prim.Native.Nat.{ℕ}
use mathlib.Core.Path.{◌≡◌, sym, ap}
use mathlib.Core.List.{List}
use Rattle.std.specs.Prelude.{Ok}
use Rattle.names.specs.Bytes.{Bytes}
use Rattle.names.specs.Spelling.{most_colours}
use Rattle.books.specs.Keeps.{most_motifs}
use Rattle.books.specs.BookRead.{BookRead}
use Rattle.books.specs.Book.{book_of}
use Rattle.books.specs.Told.{told_book}
use Rattle.books.specs.declared.family.Family.{Family}
use Rattle.books.proofs.ReadingBooks.{book-lies, book-accepted}
use Rattle.families.specs.inner.Lent.{rules_of, Lent}
use Rattle.families.proofs.Fitting.{fit-more}

book-lent : (s : List ℕ) → Bytes s → (book_of s).fault.number ≡ 0 → Lent s (book_of s).family
book-lent s bytes z =
    let f : Family = (book_of s).family in
    let lies = book-lies s z in
    let keeps = (book-accepted s bytes z).keeps in
    let places = lies.places in
    record {
      fitted = record {
        sized = record {
          colours_few = places.few;
          motifs_few = lies.motifs_few;
          start_fits = lies.start_fits;
          rules_few = lies.rules_few;
          places_all = lies.rules_size;
        };
        fits = fit-more _ _ most_motifs most_colours (rules_of f) keeps.motifs_few keeps.colours_ok.few keeps.sound.rules_fit;
      };
      keeps = keeps;
      lists = record {
        few = places.few;
        inside = places.inside;
        distinct = keeps.colours_ok.distinct;
      };
    }

-- The same of a family that the reader gave.
pub read-lent : (s : List ℕ) {f : Family} → told_book (Ok f) ≡ book_of s → Bytes s → Lent s f
read-lent s read bytes =
    rw (ap (λ (b : BookRead). b.family) read) (book-lent s bytes (sym (ap (λ (b : BookRead). b.fault.number) read)))
