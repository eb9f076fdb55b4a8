-- Which number the combination of accepted books gets: 12 where it exceeds the limits, else 13 where the slice is shorter than its spelling, else 0. The tests are
-- made in that order.
use Prim.Native.Nat.{ℕ}
use mathlib.Core.Bool.{true}
use mathlib.Core.Path.{◌≡◌, refl, ◌∙◌, ap, subst⁻¹}
use mathlib.Core.List.{List}
use native.Mathlib.Omega.{arith}
use Rattle.names.specs.Fault.{Fault}
use Rattle.names.specs.Bytes.{Bytes}
use Rattle.names.proofs.Tests.{together, neither}
use Rattle.books.specs.Contents.{Contents}
use Rattle.books.specs.Book.{book_of, IsBook}
use Rattle.drafts.specs.Outcome.{Outcome, lent, Leaves}
use Rattle.families.specs.Outcome.{made, on_one, on_second, on_two}
use Rattle.books.specs.Lent.{contents_of}
use Rattle.books.specs.Answer.{answer_in, count_in}
use Rattle.families.specs.Answers.{WhichNumber}
use Rattle.families.specs.EachCall.{EachCall}
use Rattle.families.proofs.Keeping.{KeptTwo, KeptOne, each-call}
use Rattle.families.proofs.Outcomes.{made_ends}
use Rattle.drafts.proofs.Outcomes.{read-accepted}
use Rattle.families.proofs.ReadingOff.{one-read, two_read}

-- The number and the count of an outcome.
abbrev Gets : Contents → List ℕ → Outcome → Type 0
Gets c out o = WhichNumber c out o.answer.number o.count

made-verdict : (c : Contents) (out : List ℕ) → Gets c out (made c out)
made-verdict c out =
    made_ends (Gets c out) out c
    (λ small room.
    record {
      twelve = neither (λ z. omega arith) (λ large. large small);
      thirteen = neither (λ z. omega arith) (λ x. omega (arith, x.1));
      zero = together refl (small, room);
      counted = λ _. refl;
    })
    (λ small short.
    record {
      twelve = neither (λ z. omega arith) (λ large. large small);
      thirteen = together refl (small, short);
      zero = neither (λ z. omega arith) (λ x. omega (arith, x.1));
      counted = λ z. absurd (omega arith);
    })
    (λ large.
    record {
      twelve = together refl large;
      thirteen = neither (λ z. omega arith) (λ x. large x.0);
      zero = neither (λ z. omega arith) (λ x. large x.0);
      counted = λ z. absurd (omega arith);
    })

-- An accepted book goes on.
accepted-goes : (input : ℕ) (s out : List ℕ) (go : Contents → Outcome) → IsBook s → lent input s out go ≡ go (contents_of s)
accepted-goes input s out go a = read-accepted true s (book_of s) refl input out go (ap (λ (f : Fault). f.number) a)

-- Two accepted books, and one.
abbrev pub VerdictTwo : (Contents → Contents → Contents) → Type 0
VerdictTwo op = (first second out left : List ℕ) (r : ℕ) → Bytes first → Bytes second → IsBook first → IsBook second
    → Leaves (on_two op first second out) r left → WhichNumber (op (contents_of first) (contents_of second)) out (answer_in r).number (count_in r)

abbrev pub VerdictOne : (Contents → Contents) → Type 0
VerdictOne op = (book out left : List ℕ) (r : ℕ) → Bytes book → IsBook book
    → Leaves (on_one op book out) r left → WhichNumber (op (contents_of book)) out (answer_in r).number (count_in r)

two-verdict : (op : Contents → Contents → Contents) → KeptTwo op → VerdictTwo op
two-verdict op keeps first second out left r bf bs af ag leaves =
    let c : Contents = op (contents_of first) (contents_of second) in
    subst⁻¹ (Gets c out)
    (two_read op keeps first second out left r bf bs leaves
    ∙ accepted-goes 1 first out (λ f. on_second (op f) second out) af
    ∙ accepted-goes 2 second out (λ g. made (op (contents_of first) g) out) ag)
    (made-verdict c out)

pub one-verdict : (op : Contents → Contents) → KeptOne op → VerdictOne op
one-verdict op keeps book out left r bytes accepted leaves =
    let c : Contents = op (contents_of book) in
    subst⁻¹ (Gets c out) (one-read op keeps book out left r bytes leaves ∙ accepted-goes 1 book out (λ f. made (op f) out) accepted) (made-verdict c out)

pub verdicts : EachCall VerdictTwo VerdictOne
verdicts = each-call VerdictTwo VerdictOne two-verdict one-verdict
