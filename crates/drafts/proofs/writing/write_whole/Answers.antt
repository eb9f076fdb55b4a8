-- Where the slice is shorter than the book's spelling that is written nowhere, and else the size that was measured is the spelling's.
use Prim.Native.Nat.{◌≤◌, ◌<◌}
use mathlib.Core.Path.{◌≡◌, sym}
use native.Mathlib.Omega.{arith}
use borrow.Author.Rules.{rules}
use borrow.Author.Tests.{le-leb, lt-leb}
use lib.ListN.{length}
use Rattle.names.proofs.Putting.{put-out}
use Rattle.books.specs.SpellBook.{spell_book}
use Rattle.drafts.specs.Draft.{draft_in}
use Rattle.drafts.proofs.writing.write_whole.Goals as goal

pub returns-then-out-size : goal.returns-then-out-size
returns-then-out-size c =
    let a = c.args in
    let book = spell_book (draft_in a.first.now a.second.now a.d.now) in
    let long : length a.out.now < length book = omega (arith, c.if-out-size.true, c.book.ensures.at_most) in
    record { answers = simp (lt-leb _ _ long); leaves = sym (put-out a.out.now 0 book (omega (arith, long))) }

pub returns : goal.returns
returns c =
    let a = c.args in
    let book = spell_book (draft_in a.first.now a.second.now a.d.now) in
    let size : c.book.new.self.at ≡ length book = omega (arith, c.if-out-size.false, c.book.ensures.at_most, c.book.ensures.at_least) in
    let fits : length book ≤ length a.out.now = omega (arith, size, c.if-out-size.false) in
    record { answers = simp (le-leb _ _ fits, size); leaves = let left = c.book-2.ensures.held (omega (arith, fits)) in search rules }
