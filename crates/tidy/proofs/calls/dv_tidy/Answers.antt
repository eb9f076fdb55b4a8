-- A refused book is blamed, and the family of an accepted one is tidied.
use mathlib.Core.Bool.{false}
use mathlib.Core.Path.{◌≡◌, refl}
use native.Mathlib.Omega.{arith}
use Rattle.std.specs.Prelude.{Ok}
use Rattle.names.proofs.Refusing.{number-some}
use Rattle.books.specs.Book.{untidy_of}
use Rattle.books.specs.Told.{told_book}
use Rattle.drafts.proofs.Outcomes.{read-accepted, blamed-leaves}
use Rattle.tidy.specs.Outcome.{tidied_out, tidying}
use Rattle.tidy.proofs.Calling.{read-fitted}
use Rattle.tidy.proofs.calls.dv_tidy.Goals as goal
use Rattle.tidy.proofs.calls.dv_tidy.Goals.{In-Ok}

-- the book was read
read : (c : In-Ok) → told_book (Ok c.in-Ok.family) ≡ untidy_of c.args.book.now
read c = rw c.in-Ok.is at c.read_untidy.ensures

pub invariant_of-tidy_family : goal.invariant_of-tidy_family
invariant_of-tidy_family c =
    record { kept = read-fitted c.args.book.now (read (goal.at.invariant_of-tidy_family c).In-Ok) (λ i. (c.shared_slice_known-1.given i).fits) }

pub returns-in-Ok : goal.returns-in-Ok
unfolding tidying
returns-in-Ok c =
    let out = c.args.out.now in
    rw (read-accepted false c.args.book.now _ (read (goal.at.returns-in-Ok c).In-Ok) 1 out (λ b. tidied_out b out) refl) c.tidy_family.ensures

pub returns-in-Err : goal.returns-in-Err
unfolding tidying
returns-in-Err c =
    blamed-leaves false c.args.book.now _ (rw c.in-Err.is at c.read_untidy.ensures) 1 _ c.blame.ensures _ _ _
    (λ z. omega (arith, number-some c.in-Err.fault.refusal, z)) c.pack.ensures
