-- Demand 1, of the call: from any bytes and any slices, what the answer can be, which input it blames and where, and what each lent slice then holds. Stated on the number
-- that the C host gets, taken apart as the header does. Each way in which a derivation ends says it, and the number is the answer packed.
use Prim.Native.Nat.{ℕ, ◌/◌, ◌%◌, ◌^◌, ◌≤◌}
use mathlib.Core.Path.{◌≡◌, refl}
use mathlib.Core.List.{List, ◌++◌}
use mathlib.Core.Logic.{◌⊎◌, inl, inr}
use native.Mathlib.Omega.{arith}
use lib.ListN.{drop}
use Rattle.books.specs.Answer.{InputsNumber}
use Rattle.books.proofs.Packing.{apart}
use Rattle.books.proofs.Refusals.{Blames, own-blames, refusal-listed, refusal-blames, refusal-other}
use Rattle.pieces.specs.Table.{table}
use Rattle.pieces.specs.Derivation.{Derivation, entries_needed, derivation, LeavesPacked}
use Rattle.pieces.proofs.DerivationAnswers.{derivation-packs}
use Rattle.books.specs.Lent.{contents_of, picture_of}
use Rattle.pieces.proofs.Endings.{derivation-ends}
use Rattle.pieces.proofs.TrialsTold.{Counts, dv_derive-counts}

-- A call that was lent a book, a sheet and two slices answers so, and leaves the slices so.
pub record Answered (press : ℕ) (book sheet work tree : List ℕ) (number blamed place : ℕ) (work_left tree_left : List ℕ) : Type 0 where
  pub listed : InputsNumber number ⊎ ((number ≡ 21) ⊎ (number ≡ 9) ⊎ (number ≡ 10) ⊎ (number ≡ 11))
  pub blames : Blames press book sheet number blamed place
  pub unwritten : 1 ≤ number → (number ≡ 11 → ⊥) → (work_left ≡ work) × (tree_left ≡ tree)
  pub eleven : number ≡ 11 → (work_left ≡ table (contents_of book) (picture_of press sheet) ++ drop (entries_needed (picture_of press sheet)) work) × (tree_left ≡ tree)

module _ (press : ℕ) (book sheet work tree : List ℕ) where
  abbrev Obeys : Derivation → Type 0
  Obeys d = Answered press book sheet work tree d.answer.number d.answer.blamed d.answer.place d.entries d.numbers

  obeys : Obeys (derivation press book sheet work tree)
  obeys =
      derivation-ends press book sheet work tree Obeys
      (record {
        refused = λ a r.
            record {
              listed = refusal-listed r;
              blames = refusal-blames r;
              unwritten = λ h g. (refl, refl);
              eleven = λ e. absurd (refusal-other r 11 refl e);
            };
        short_work = λ fine short.
            record { listed = inr (inr (inl refl)); blames = own-blames fine 9 0 refl (λ _. refl); unwritten = λ h g. (refl, refl); eleven = λ e. absurd (omega arith) };
        short_tree = λ fine enough short.
            record { listed = inr (inr (inr (inl refl))); blames = own-blames fine 10 0 refl (λ _. refl); unwritten = λ h g. (refl, refl); eleven = λ e. absurd (omega arith) };
        declined = λ fine room none.
            record {
              listed = inr (inr (inr (inr refl)));
              blames = own-blames fine 11 0 refl (λ _. refl);
              unwritten = λ h g. absurd (g refl);
              eleven = λ e. (refl, refl);
            };
        derived = λ fine room x nodes given.
            record {
              listed = inl (inl (omega arith));
              blames = own-blames fine 0 0 refl (λ _. refl);
              unwritten = λ h g. absurd (omega arith);
              eleven = λ e. absurd (omega arith);
            };
      })

  -- ── The theorem ──

  pub record Called (r : ℕ) (work_left tree_left : List ℕ) : Type 0 where
    pub answered : Answered press book sheet work tree (r % 2 ^ 8) (r / 2 ^ 8 % 2 ^ 4) (r / 2 ^ 12 % 2 ^ 20) work_left tree_left
    pub counted : Counts press book sheet (r % 2 ^ 8) (r / 2 ^ 32)

  pub dv_derive-called : {r : ℕ} {work_left tree_left : List ℕ} → LeavesPacked (derivation press book sheet work tree) r work_left tree_left → Called r work_left tree_left
  dv_derive-called left =
      let d = derivation press book sheet work tree in
      let parts = apart d.answer d.trials (derivation-packs press book sheet work tree) in
      let counted = dv_derive-counts press book sheet work tree left in
      rw (left.leaves_work, left.leaves_tree)
      (record { answered = rw (left.answers, parts.number_is, parts.blamed_is, parts.place_is) obeys; counted = counted })
