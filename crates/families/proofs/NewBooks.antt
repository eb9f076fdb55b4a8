-- A call that answers 0 has written the contents that it made: their spelling stands at the front of the slice.
use Prim.Native.Nat.{ℕ}
use mathlib.Core.Path.{◌≡◌}
use mathlib.Core.List.{List}
use native.Mathlib.Omega.{arith}
use Rattle.books.specs.Contents.{Contents}
use Rattle.books.specs.Keeps.{Keeps}
use Rattle.drafts.specs.Outcome.{Outcome}
use Rattle.drafts.proofs.NewBooks.{Spelled, spelled-so}
use Rattle.families.specs.Limits.{WithinLimits}
use Rattle.families.specs.Outcome.{made}
use Rattle.families.proofs.Outcomes.{made_ends}

pub made-spelled : (c : Contents) (out : List ℕ) → (WithinLimits c → Keeps c) → (made c out).answer.number ≡ 0
    → Spelled c out (made c out).out (made c out).count
made-spelled c out keeps =
    made_ends (λ (o : Outcome). o.answer.number ≡ 0 → Spelled c out o.out o.count) out c
    (λ small room _. spelled-so c out (keeps small) room)
    (λ _ _ z. absurd (omega arith))
    (λ _ z. absurd (omega arith))
