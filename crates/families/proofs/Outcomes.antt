-- The outcome of contents that were made has three ends: they are written, find no room or exceed the limits. What holds of each end holds of the outcome; so it
-- packs into one number.
use Prim.Native.Nat.{◌≤◌, ◌<◌}
use mathlib.Core.Path.{sym, ◌∙◌}
use mathlib.Core.Bool.{true≢false}
use mathlib.Core.List.{List}
use Prim.Native.Nat.{ℕ}
use native.Mathlib.Omega.{arith}
use lib.ListN.{length}
use Rattle.names.proofs.Picking.{pick_ind}
use Rattle.books.specs.Answer.{plain}
use Rattle.books.specs.Contents.{Contents}
use Rattle.books.specs.Keeps.{Keeps}
use Rattle.books.specs.SpellBook.{spell_book}
use Rattle.drafts.specs.Outcome.{Outcome, refused, spelled, written}
use Rattle.drafts.proofs.Outcomes.{written-ends, Packed, spelled-packs, refused-packs}
use Rattle.families.specs.Limits.{WithinLimits, within_limits?}
use Rattle.families.specs.Outcome.{made}
use Rattle.families.proofs.Testing.{within-limits}

pub made_ends : (P : Outcome → Type 0) (out : List ℕ) (c : Contents) → (WithinLimits c → length (spell_book c) ≤ length out → P (spelled c out))
    → (WithinLimits c → length out < length (spell_book c) → P (refused (plain 13) out))
    → ((WithinLimits c → ⊥) → P (refused (plain 12) out))
    → P (made c out)
unfolding made
made_ends P out c fits short large =
    pick_ind P (within_limits? c) (written c out) (refused (plain 12) out)
    (λ w. let small = (within-limits c).0 w in written-ends P out c (fits small) (short small))
    (λ w. large (λ small. true≢false (sym ((within-limits c).1 small) ∙ w)))

pub made-packs : (c : Contents) (out : List ℕ) → (WithinLimits c → Keeps c) → Packed (made c out)
made-packs c out keeps =
    made_ends Packed out c
    (λ small _. spelled-packs c out (keeps small))
    (λ _ _. refused-packs 13 out (omega arith))
    (λ _. refused-packs 12 out (omega arith))
