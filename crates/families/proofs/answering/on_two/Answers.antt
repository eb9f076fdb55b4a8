-- A refused first book is blamed, and an accepted one is lent to what follows.
use mathlib.Core.Bool.{true}
use mathlib.Core.Path.{◌≡◌, refl}
use native.Mathlib.Omega.{arith}
use Rattle.std.specs.Prelude.{Ok}
use Rattle.names.proofs.Refusing.{number-some}
use Rattle.books.specs.Book.{book_of}
use Rattle.books.specs.Told.{told_book}
use Rattle.drafts.proofs.Outcomes.{read-accepted, blamed-leaves}
use Rattle.families.specs.Outcome.{on_second}
use Rattle.families.specs.inner.Asked.{paired}
use Rattle.families.proofs.Reading.{read-lent}
use Rattle.families.proofs.answering.on_two.Goals as goal
use Rattle.families.proofs.answering.on_two.Goals.{In-Ok}

-- the first book was read
read : (c : In-Ok) → told_book (Ok c.in-Ok.family) ≡ book_of c.args.first.now
read c = rw c.in-Ok.is at c.read_book.ensures

pub invariant_of-on_second : goal.invariant_of-on_second
invariant_of-on_second c =
    record { lent = read-lent c.args.first.now (read (goal.at.invariant_of-on_second c).In-Ok) (λ i. (c.shared_slice_known-1.given i).fits) }

pub returns-in-Ok : goal.returns-in-Ok
returns-in-Ok c =
    let a = c.args in
    let out = a.out.now in
    rw (read-accepted true a.first.now _ (read (goal.at.returns-in-Ok c).In-Ok) 1 out (λ f. on_second (paired a.pairing f) a.second.now out) refl) c.on_second.ensures

pub returns-in-Err : goal.returns-in-Err
returns-in-Err c =
    blamed-leaves true c.args.first.now _ (rw c.in-Err.is at c.read_book.ensures) 1 _ c.blame.ensures _ _ _
    (λ z. omega (arith, number-some c.in-Err.fault.refusal, z)) c.pack.ensures
