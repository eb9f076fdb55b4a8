-- A colour below the count lies in the book where its place and length say; any other number shows nothing.
use native.Mathlib.Omega.{arith}
use mathlib.Core.Path.{refl, sym}
use native.Mathlib.Nat.{add-sub_cancel_left}
use Rattle.books.specs.Book.{book_of}
use Rattle.books.proofs.ReadingBooks.{book-places}
use Rattle.lookups.proofs.Showing.{start-there, name-there, start-nowhere, name-nothing}
use Rattle.lookups.proofs.colour.colour.Goals as goal

pub slice_bounds-result-end : goal.slice_bounds-result-end
slice_bounds-result-end c =
    let f = c.in-Some.ensures in
    omega (arith, f.start_is, f.length_is, (book-places c.args.book.now).inside c.args.number f.below)

pub returns-in-Some : goal.returns-in-Some
returns-in-Some c =
    let s = c.args.book.now in
    let k = c.args.number in
    let f = c.in-Some.ensures in
    record {
      memory = refl;
      offset = rw (start-there s (book_of s).family.colours k f.below, ← f.start_is) (omega arith);
      holds = simp (name-there s (book_of s).family.colours k f.below, ← f.start_is, ← f.length_is, add-sub_cancel_left);
    }

pub returns-in-None : goal.returns-in-None
returns-in-None c =
    let s = c.args.book.now in
    let k = c.args.number in
    let above = c.in-None.ensures in
    record {
      memory = refl;
      offset = rw (start-nowhere s (book_of s).family.colours k above) (omega arith);
      holds = sym (name-nothing s (book_of s).family.colours k above);
    }
