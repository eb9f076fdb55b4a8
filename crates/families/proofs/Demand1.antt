-- Demand 1 for each of the eight calls, from any bytes: an outcome is a fault of the first book, or of the second where the first has none, or one of 0, 12 and 13,
-- and the host reads off that very outcome.
use Prim.Native.Nat.{ℕ}
use mathlib.Core.Bool.{true}
use mathlib.Core.Path.{refl, subst⁻¹}
use mathlib.Core.List.{List}
use mathlib.Core.Logic.{◌⊎◌, inl, inr, ⊎_elim}
use native.Mathlib.Omega.{arith}
use Rattle.names.specs.Bytes.{Bytes}
use Rattle.books.specs.Book.{IsBook}
use Rattle.books.specs.Contents.{Contents}
use Rattle.books.specs.declared.answer.Answer.{Answer}
use Rattle.books.proofs.ReadingBooks.{book-refused}
use Rattle.drafts.specs.Outcome.{Outcome, lent, Leaves}
use Rattle.families.specs.Outcome.{made, on_one, on_second, on_two}
use Rattle.books.specs.Lent.{contents_of}
use Rattle.books.specs.Answer.{answer_in, count_in}
use Rattle.families.specs.Answers.{Blames, Answered}
use Rattle.families.specs.EachCall.{EachCall}
use Rattle.families.proofs.Keeping.{KeptTwo, KeptOne, each-call}
use Rattle.drafts.proofs.Outcomes.{lent-ends}
use Rattle.families.proofs.Outcomes.{made_ends}
use Rattle.families.proofs.ReadingOff.{one-read, two_read}

-- in which book a fault stands
abbrev pub FaultyTwo : List ℕ → List ℕ → Answer → Type 0
FaultyTwo first second a = Blames 1 first a ⊎ (IsBook first × Blames 2 second a)

abbrev pub AnswersTwo : (Contents → Contents → Contents) → Type 0
AnswersTwo op = (first second out left : List ℕ) (r : ℕ) → Bytes first → Bytes second → Leaves (on_two op first second out) r left
    → Answered (FaultyTwo first second) out left (answer_in r) (count_in r)

abbrev pub AnswersOne : (Contents → Contents) → Type 0
AnswersOne op = (book out left : List ℕ) (r : ℕ) → Bytes book → Leaves (on_one op book out) r left
    → Answered (Blames 1 book) out left (answer_in r) (count_in r)

-- The same of outcomes.
module _ (Faulty : Answer → Type 0) (out : List ℕ) where
  abbrev Tells : Outcome → Type 0
  Tells o = Answered Faulty out o.out o.answer o.count

  made_told : (c : Contents) → Tells (made c out)
  made_told c =
      made_ends Tells out c
      (λ _ _. record { one_of = inl (inl (omega arith)); faulty = λ some _. absurd (omega arith); faultless = λ _. (refl, refl); refusal = λ z. absurd (z refl) })
      (λ _ _. record { one_of = inr (inr refl); faulty = λ _ few. absurd (⊎_elim (λ h. omega arith) (λ h. omega arith) few); faultless = λ _. (refl, refl); refusal = λ _. (refl, refl) })
      (λ _. record { one_of = inr (inl refl); faulty = λ _ few. absurd (⊎_elim (λ h. omega arith) (λ h. omega arith) few); faultless = λ _. (refl, refl); refusal = λ _. (refl, refl) })

  lent-told : (input : ℕ) (s : List ℕ) → ((a : Answer) → Blames input s a → Faulty a) → (go : Contents → Outcome) → (IsBook s → Tells (go (contents_of s)))
      → Tells (lent input s out go)
  lent-told input s blames go told =
      lent-ends Tells out true input s go told
      (λ some.
      let b = (book-refused s some).blamed in
      record {
        one_of = inl b.known;
        faulty = λ _ _. blames _ (record { fault-is = refl; inside = b.inside });
        faultless = ⊎_elim (λ none. absurd (some none)) (λ other. absurd (other b.known));
        refusal = λ _. (refl, refl);
      })

one_told : (op : Contents → Contents) → KeptOne op → AnswersOne op
one_told op keeps book out left r bytes leaves =
    let F = Blames 1 book in
    subst⁻¹ (Tells F out) (one-read op keeps book out left r bytes leaves)
    (lent-told F out 1 book (λ _ b. b) (λ f. made (op f) out) (λ _. made_told F out _))

two-told : (op : Contents → Contents → Contents) → KeptTwo op → AnswersTwo op
two-told op keeps first second out left r bf bs leaves =
    let F = FaultyTwo first second in
    subst⁻¹ (Tells F out) (two_read op keeps first second out left r bf bs leaves)
    (lent-told F out 1 first (λ _ b. inl b) (λ f. on_second (op f) second out)
    (λ a. lent-told F out 2 second (λ _ b. inr (a, b)) (λ g. made (op (contents_of first) g) out) (λ _. made_told F out _)))

pub demand1 : EachCall AnswersTwo AnswersOne
demand1 = each-call AnswersTwo AnswersOne two-told one_told
