-- Two outcomes that a contract allows are equal. The line has the name of the public function and cites the very definition that its contract does.
use Prim.Native.Nat.{ℕ}
use mathlib.Core.Path.{◌≡◌, refl, ap}
use mathlib.Core.List.{List}
use native.Mathlib.Omega.{arith}
use Rattle.std.specs.Prelude.{Result, Ok, Err}
use Rattle.names.proofs.Settled.{settled}
use Rattle.drafts.specs.Draft.{WroteDraft}
use Rattle.drafts.specs.declared.draft.Draft.{Draft}
use Rattle.drafts.specs.Written.{Written, told_written}
use Rattle.drafts.specs.declared.writing.Unwritten.{Unwritten}
use Rattle.drafts.specs.declared.writing.Unwritten.TheVariants.{TooMany, NoRoom}

pub write_book-settled : (first second out o p : List ℕ) (d : Draft) (r q : Written)
    → WroteDraft first second d out r o → WroteDraft first second d out q p → (r ≡ q) × (o ≡ p)
write_book-settled first second out o p d r q x y = (settled x.answers y.answers, settled x.leaves y.leaves)

-- Two results that are told alike are equal, so that what is settled of the one told is settled of the result.
pub told_written-once : (r q : Result ℕ Unwritten) → told_written r ≡ told_written q → r ≡ q
told_written-once (Ok n) (Ok m) e = ap Ok (ap (λ (w : Written). w.count) e)
told_written-once (Ok n) (Err TooMany) e = absurd (omega (arith, ap (λ (w : Written). w.number) e))
told_written-once (Ok n) (Err NoRoom) e = absurd (omega (arith, ap (λ (w : Written). w.number) e))
told_written-once (Err TooMany) (Ok m) e = absurd (omega (arith, ap (λ (w : Written). w.number) e))
told_written-once (Err NoRoom) (Ok m) e = absurd (omega (arith, ap (λ (w : Written). w.number) e))
told_written-once (Err TooMany) (Err TooMany) e = refl
told_written-once (Err TooMany) (Err NoRoom) e = absurd (omega (arith, ap (λ (w : Written). w.number) e))
told_written-once (Err NoRoom) (Err TooMany) e = absurd (omega (arith, ap (λ (w : Written). w.number) e))
told_written-once (Err NoRoom) (Err NoRoom) e = refl
