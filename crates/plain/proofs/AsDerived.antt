-- For each pair that the plain engine takes, its answer is that of a derivation with room enough: both begin with 21 and the same faults, and both say whether the family has the sheet.
use Prim.Native.Nat.{ℕ, ◌%◌, ◌^◌}
use mathlib.Core.Path.{◌≡◌, refl, sym, ap, ◌∙◌}
use mathlib.Core.List.{List}
use native.Mathlib.Omega.{arith}
use Rattle.books.specs.Answer.{answer, plain, packed, Packs, answer_in}
use Rattle.books.specs.Derives.{Member}
use Rattle.books.specs.Lent.{contents_of, picture_of, Accepted}
use Rattle.books.specs.declared.answer.Answer.{Answer}
use Rattle.books.proofs.Packing.{apart}
use Rattle.books.proofs.Refusals.{refusal-bad}
use Rattle.pieces.specs.Derivation.{Derivation, Roomy, derivation, Leaves, LeavesPacked}
use Rattle.pieces.specs.declared.derive.Derived.{Derived}
use Rattle.pieces.proofs.DerivationAnswers.{refused-first, derivation-packs}
use Rattle.pieces.proofs.Endings.{derivation-ends}
use Rattle.plain.specs.Outcome.{plain_answer}
use Rattle.plain.proofs.Demand1.{plain_answer-packs}
use Rattle.plain.proofs.Endings.{plain-ends}

-- what is read off a packed answer is the answer
read_back : (a : Answer) (count : ℕ) → Packs a count → answer_in (packed a count) ≡ a
read_back a count packs = let parts = apart a count packs in λ i. answer (parts.number_is i) (parts.blamed_is i) (parts.place_is i)

module _ (press : ℕ) (book sheet entries numbers : List ℕ) (room : Roomy (picture_of press sheet) entries numbers) where
  abbrev d : Derivation
  d = derivation press book sheet entries numbers

  abbrev Has : Type 0
  Has = Member (contents_of book) (picture_of press sheet)

  -- with room enough a derivation of an accepted pair says whether the family has the sheet
  says : Accepted press book sheet → (a : Answer) → ((Has → ⊥) → a ≡ plain 11) → (Has → a ≡ plain 0) → a ≡ d.answer
  says fine a none some =
      derivation-ends press book sheet entries numbers (λ (x : Derivation). a ≡ x.answer)
      (record {
        refused = λ a r. absurd (refusal-bad r fine);
        short_work = λ _ short. absurd (omega (arith, room.work_long));
        short_tree = λ _ _ short. absurd (omega (arith, room.tree_long));
        declined = λ _ _ x. none x;
        derived = λ _ _ x _ _. some x;
      })

  pub as-derived : ((plain_answer press book sheet).number ≡ 20 → ⊥) → plain_answer press book sheet ≡ d.answer
  as-derived =
      plain-ends press book sheet (λ (a : Answer). (a.number ≡ 20 → ⊥) → a ≡ d.answer)
      (record {
        refused = λ a r _. sym (ap (λ (x : Derivation). x.answer) (refused-first press book sheet entries numbers r));
        too_many = λ _ _ taken. absurd (taken refl);
        declined = λ fine _ none _. says fine (plain 11) (λ _. refl) (λ has. absurd (none has));
        derived = λ fine _ has _. says fine (plain 0) (λ none. absurd (none has)) (λ _. refl);
      })

  -- ── The theorems ──

  -- the two engines answer alike, number, blamed input and place, ...
  pub plain-as-derive : {a : Answer} {r : Derived} {w t : List ℕ} → a ≡ plain_answer press book sheet → Leaves d r w t → (a.number ≡ 20 → ⊥) → a ≡ r.answer
  plain-as-derive e left taken =
      e ∙ as-derived (λ h. taken (ap (λ (x : Answer). x.number) e ∙ h)) ∙ sym (ap (λ (x : Derived). x.answer) left.answers)

  -- ... and the C host reads the same of both; the count of a derivation is its trials
  pub dv_plain-as-dv-derive : {a r : ℕ} {w t : List ℕ} → a ≡ packed (plain_answer press book sheet) 0 → LeavesPacked d r w t → (a % 2 ^ 8 ≡ 20 → ⊥) → answer_in a ≡ answer_in r
  dv_plain-as-dv-derive e left taken =
      let plainly = read_back (plain_answer press book sheet) 0 (plain_answer-packs press book sheet) in
      let derived = read_back d.answer d.trials (derivation-packs press book sheet entries numbers) in
      let number = ap (λ (x : Answer). x.number) plainly in
      ap answer_in e ∙ plainly ∙ as-derived (λ h. taken (ap (λ (n : ℕ). n % 2 ^ 8) e ∙ number ∙ h)) ∙ sym (ap answer_in left.answers ∙ derived)
