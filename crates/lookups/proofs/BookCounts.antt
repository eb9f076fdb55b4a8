-- What the look-up of a book's counts answers, from its bytes. Every count fits a byte, so that division takes the number apart again; and it is 0 exactly of a
-- refused book, since 1 stands above the counts.
use Prim.Native.Nat.{ℕ, ◌+◌, ◌*◌, ◌/◌, ◌%◌, ◌^◌, ◌<◌}
use mathlib.Core.Path.{◌≡◌}
use mathlib.Core.List.{List}
use mathlib.Core.Logic.{◌↔◌, ⊎_elim}
use native.Mathlib.Nat.{eq-zero-or-pos}
use native.Mathlib.Omega.{arith}
use borrow.Author.Tests.{eq-eqb, ne_eqb}
use lib.ListN.{length}
use Rattle.names.proofs.ReadingColours.{names-count}
use Rattle.books.specs.Contents.{Contents}
use Rattle.books.specs.Lent.{contents_of}
use Rattle.books.specs.Book.{book_of}
use Rattle.lookups.specs.Book.{packed_counts, counts_shown}
use Rattle.books.proofs.ReadingBooks.{book-lies, book-refused}
use Rattle.lookups.proofs.BookRules.{rules-count}

-- the counts and the start, as a host reads them off their number
pub record CountsApart (b : Contents) (n : ℕ) : Type 0 where
  pub colours_is : n % 2 ^ 8 ≡ length b.colours
  pub motifs_is : n / 2 ^ 8 % 2 ^ 8 ≡ b.motifs
  pub start_is : n / 2 ^ 16 % 2 ^ 8 ≡ b.start
  pub rules_is : n / 2 ^ 24 % 2 ^ 8 ≡ length b.rules
  pub one_above : n / 2 ^ 32 ≡ 1

pub counts-apart : (b : Contents) → length b.colours < 2 ^ 8 → b.motifs < 2 ^ 8 → b.start < 2 ^ 8 → length b.rules < 2 ^ 8 → CountsApart b (packed_counts b)
counts-apart b c m t r = record { colours_is = omega arith; motifs_is = omega arith; start_is = omega arith; rules_is = omega arith; one_above = omega arith }

module _ (s : List ℕ) where
  -- each fits a byte, of a refused book too
  pub counts-few : let f = (book_of s).family in (f.colours.count < 2 ^ 8) × (f.motifs < 2 ^ 8) × (f.start < 2 ^ 8) × (f.count < 2 ^ 8)
  counts-few =
      ⊎_elim
      (λ z. let lies = book-lies s z in
      (omega (arith, lies.places.few), omega (arith, lies.motifs_few), omega (arith, lies.start_fits, lies.motifs_few), omega (arith, lies.rules_few)))
      (λ p. rw (book-refused s (λ z. omega arith)).empty (omega arith, omega arith, omega arith, omega arith))
      (eq-zero-or-pos (book_of s).fault.number)

  -- those of the contents, by the family that was read
  pub counts-read : (book_of s).fault.number ≡ 0
      → let f = (book_of s).family in f.colours.count + 2 ^ 8 * f.motifs + 2 ^ 16 * f.start + 2 ^ 24 * f.count + 2 ^ 32 ≡ counts_shown s
  counts-read z = rw (eq-eqb (book_of s).fault.number 0 z, rules-count s, names-count s (book_of s).family.colours)

  pub no-counts : ((book_of s).fault.number ≡ 0 → ⊥) → counts_shown s ≡ 0
  no-counts d = rw (ne_eqb (book_of s).fault.number 0 d)

  -- the number shown of an accepted book, taken apart, is the counts and the start of the contents
  pub counts_shown_lem : (book_of s).fault.number ≡ 0 → CountsApart (contents_of s) (counts_shown s)
  counts_shown_lem z =
      let few = counts-few in
      rw (eq-eqb (book_of s).fault.number 0 z)
      (counts-apart (contents_of s) (omega (arith, names-count s (book_of s).family.colours)) (omega arith) (omega arith) (omega (arith, rules-count s)))

  -- it is 0 exactly where the book is refused
  pub no-counts-exactly : (counts_shown s ≡ 0) ↔ ((book_of s).fault.number ≡ 0 → ⊥)
  no-counts-exactly = (λ e z. omega (arith, (counts_shown_lem z).one_above), no-counts)
