-- The colours of a book are few.
use Rattle.books.proofs.ReadingBooks.{book-places}
use Rattle.lookups.proofs.BookFamily.{family-there}
use Rattle.lookups.proofs.colour.place_in.Goals as goal

pub place_of-requires : goal.place_of-requires
place_of-requires c =
    let s = c.args.book.now in
    rw (family-there s c.read_book.result c.in_ok-ok.field-0 c.read_book.ensures c.in_ok-ok.ensures.value) (book-places s).few
