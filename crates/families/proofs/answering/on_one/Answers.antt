-- A refused book is blamed; of an accepted one the combination is made and finished.
use mathlib.Core.Bool.{true}
use mathlib.Core.Path.{◌≡◌, refl}
use native.Mathlib.Omega.{arith}
use Rattle.std.specs.Prelude.{Ok}
use Rattle.names.proofs.Refusing.{number-some}
use mathlib.Core.List.{[]}
use Rattle.books.specs.Book.{book_of}
use Rattle.books.specs.ContentsIn.{contents_in}
use Rattle.books.specs.Told.{told_book}
use Rattle.drafts.proofs.Outcomes.{read-accepted, blamed-leaves}
use Rattle.families.specs.inner.Asked.{alone}
use Rattle.families.proofs.Reading.{read-lent}
use Rattle.families.proofs.Finishing.{made-ready, finished-leaves}
use Rattle.families.proofs.answering.on_one.Goals as goal
use Rattle.families.proofs.answering.on_one.Goals.{In-Ok}

-- the book was read
read : (c : In-Ok) → told_book (Ok c.in-Ok.family) ≡ book_of c.args.book.now
read c = rw c.in-Ok.is at c.read_book.ensures

pub invariant_of-alone : goal.invariant_of-alone
invariant_of-alone c = record { lent = read-lent c.args.book.now (read (goal.at.invariant_of-alone c).In-Ok) (λ i. (c.shared_slice_known-1.given i).fits) }

pub finish-requires : goal.finish-requires
finish-requires c = made-ready [] [] _ c.alone-made.result (c.alone-made.ensures [] [])

pub returns-in-Ok : goal.returns-in-Ok
returns-in-Ok c =
    let a = c.args in
    let book = a.book.now in
    finished-leaves book book (alone a.single (contents_in book c.in-Ok.family)) c.alone-made.result (c.alone-made.ensures book book)
    _ a.out.now _ _ (read-accepted true book _ (read (goal.at.returns-in-Ok c).In-Ok) 1 a.out.now _ refl) c.finish.ensures

pub returns-in-Err : goal.returns-in-Err
returns-in-Err c =
    blamed-leaves true c.args.book.now _ (rw c.in-Err.is at c.read_book.ensures) 1 _ c.blame.ensures _ _ _
    (λ z. omega (arith, number-some c.in-Err.fault.refusal, z)) c.pack.ensures
