-- A refused second book is blamed; of two accepted ones the combination is made and finished.
use mathlib.Core.Bool.{true}
use mathlib.Core.Path.{◌≡◌, refl}
use native.Mathlib.Omega.{arith}
use Rattle.std.specs.Prelude.{Ok}
use Rattle.names.proofs.Refusing.{number-some}
use Rattle.books.specs.Book.{book_of}
use Rattle.books.specs.ContentsIn.{contents_in}
use Rattle.books.specs.Told.{told_book}
use Rattle.drafts.proofs.Outcomes.{read-accepted, blamed-leaves}
use Rattle.families.specs.inner.Asked.{paired}
use Rattle.families.proofs.Reading.{read-lent}
use Rattle.families.proofs.Finishing.{made-ready, finished-leaves}
use Rattle.families.proofs.answering.on_second.Goals as goal
use Rattle.families.proofs.answering.on_second.Goals.{In-Ok}

-- the second book was read
read : (c : In-Ok) → told_book (Ok c.in-Ok.family) ≡ book_of c.args.second.now
read c = rw c.in-Ok.is at c.read_book.ensures

pub invariant_of-paired : goal.invariant_of-paired
invariant_of-paired c = record { lent = read-lent c.args.second.now (read (goal.at.invariant_of-paired c).In-Ok) (λ i. (c.type_inv.second i).fits) }

pub finish-requires : goal.finish-requires
finish-requires c = made-ready _ _ _ c.paired-made.result c.paired-made.ensures

pub returns-in-Ok : goal.returns-in-Ok
returns-in-Ok c =
    let a = c.args in
    let second = a.second.now in
    finished-leaves a.first.bytes.now second (paired a.pairing (contents_in a.first.bytes.now a.first.family.now) (contents_in second c.in-Ok.family)) c.paired-made.result c.paired-made.ensures
    _ a.out.now _ _ (read-accepted true second _ (read (goal.at.returns-in-Ok c).In-Ok) 2 a.out.now _ refl) c.finish.ensures

pub returns-in-Err : goal.returns-in-Err
returns-in-Err c =
    blamed-leaves true c.args.second.now _ (rw c.in-Err.is at c.read_book.ensures) 2 _ c.blame.ensures _ _ _
    (λ z. omega (arith, number-some c.in-Err.fault.refusal, z)) c.pack.ensures
