-- What was made is finished as its contents are: a draft of contents within the limits is written, and what exceeds them is refused.
use Prim.Native.Nat.{ℕ}
use mathlib.Core.Path.{◌≡◌, sym, ◌∙◌, ap, subst}
use mathlib.Core.List.{List}
use Rattle.std.specs.Prelude.{Option, Some, None}
use Rattle.books.specs.Answer.{plain, packed}
use Rattle.books.specs.Contents.{Contents}
use Rattle.drafts.specs.Draft.{draft_in, DraftFits, WroteDraft}
use Rattle.drafts.specs.Outcome.{Outcome, Leaves, written}
use Rattle.drafts.specs.Written.{Written}
use Rattle.drafts.specs.declared.draft.Draft.{Draft}
use Rattle.drafts.proofs.NewBooks.{written-by}
use Rattle.drafts.proofs.SpellingDrafts.{draft-wrote}
use Rattle.families.specs.inner.Made.{Makes}
use Rattle.families.specs.Outcome.{made}
use Rattle.families.specs.inner.Finished.{finished, Ready}

pub made-ready : (s t : List ℕ) (c : Contents) (m : Option Draft) → Makes s t c m → Ready m
made-ready s t c None e = tt
made-ready s t c (Some d) makes = makes.ready

finished-made : (s t : List ℕ) (c : Contents) (m : Option Draft) → Makes s t c m → (out : List ℕ) → finished s t m out ≡ made c out
unfolding made
finished-made s t c None e out = simp e
finished-made s t c (Some d) makes out = simp (makes.within, makes.is)

-- A call that finishes what was made of contents leaves the outcome of the contents.
pub finished-leaves : (s t : List ℕ) (c : Contents) (m : Option Draft) → Makes s t c m
    → (o : Outcome) (out : List ℕ) (r : ℕ) (left : List ℕ) → o ≡ made c out → Leaves (finished s t m out) r left → Leaves o r left
finished-leaves s t c m makes o out r left e = subst (λ (p : Outcome). Leaves p r left) (finished-made s t c m makes out ∙ sym e)

-- A draft that fits is written, and the call answers what the writer answers.
pub drafted-leaves : {s t out after : List ℕ} {d : Draft} {w : Written} {r : ℕ} → DraftFits d → WroteDraft s t d out w after
    → r ≡ packed (plain w.number) w.count → Leaves (written (draft_in s t d) out) r after
drafted-leaves fits wrote told =
    let book = draft-wrote fits wrote in
    rw written-by (record { answers = told ∙ ap (λ (w : Written). packed (plain w.number) w.count) book.answers; leaves = book.leaves })
