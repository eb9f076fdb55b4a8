-- Place and length of the colour that was found are those of its name.
use Rattle.books.specs.Book.{book_of}
use Rattle.books.proofs.ReadingBooks.{book-places}
use Rattle.lookups.proofs.Showing.{place-told}
use Rattle.lookups.proofs.colour.dv_colour.Goals as goal

pub returns : goal.returns
returns c =
    let s = c.args.book.now in
    place-told s (book_of s).family.colours c.args.number (book-places s) c.place_in.result c.place_in.ensures c.map_or.result c.map_or.ensures
