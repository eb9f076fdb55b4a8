-- What the call answers, from any bytes and any slice: which number and exactly when, which input it blames and where, what the work slice then holds, and that with 0 the reason is
-- the first that holds of the lent book and sheet. Stated on the parts of the answer, and for the C host on the number taken apart as the header does.
use Prim.Native.Nat.{ℕ, ◌/◌, ◌%◌, ◌^◌, ◌≤◌, ◌<◌}
use mathlib.Core.Path.{◌≡◌, refl, ap, ◌∙◌}
use mathlib.Core.List.{List, ◌++◌}
use mathlib.Core.Logic.{◌↔◌, ◌⊎◌, inl, inr, ⊎_elim}
use native.Mathlib.Omega.{arith}
use lib.ListN.{length, drop}
use Rattle.names.proofs.Tests.{together, neither}
use Rattle.books.specs.Answer.{InputsNumber}
use Rattle.books.specs.Contents.{Contents}
use Rattle.books.specs.Picture.{Picture}
use Rattle.books.specs.Derives.{Member}
use Rattle.books.proofs.Packing.{apart}
use Rattle.books.proofs.Refusals.{Blames, own-blames, refusal-listed, refusal-blames, refusal-other, refusal-never}
use Rattle.pieces.specs.Derivation.{entries_needed}
use Rattle.pieces.specs.Table.{table}
use Rattle.books.specs.Lent.{contents_of, picture_of, Accepted}
use Rattle.reasons.specs.declared.calls.WhyNot.{WhyNot}
use Rattle.reasons.specs.declared.reason.Reason.{Reason}
use Rattle.reasons.specs.declared.reason.Reason.TheVariants.{NoReason}
use Rattle.reasons.specs.Reason.{values_of, packed_reason, values_in, reason_read}
use Rattle.reasons.specs.Holds.{First}
use Rattle.reasons.specs.Why.{Outcome, why_not, Answers, Leaves}
use Rattle.reasons.proofs.Apart.{values-read, reason_read_lem, Packable, why_not-packs}
use Rattle.reasons.proofs.Endings.{why_not-ends}

module _ (press : ℕ) (book sheet work : List ℕ) where
  abbrev b : Contents
  b = contents_of book

  abbrev p : Picture
  p = picture_of press sheet

  -- both inputs are accepted, and the work slice is long enough
  abbrev pub Ready : Type 0
  Ready = Accepted press book sheet × (entries_needed p ≤ length work)

  -- the table of the lent sheet at the front of the slice, and the slice beyond as it was
  abbrev pub tabled : List ℕ
  tabled = table b p ++ drop (entries_needed p) work

  -- A call that was lent a book, a sheet and a work slice answers so, with this reason, and leaves the slice so.
  pub record Answered (number blamed place : ℕ) (reason : Reason) (left : List ℕ) : Type 0 where
    pub listed : InputsNumber number ⊎ ((number ≡ 21) ⊎ (number ≡ 9) ⊎ (number ≡ 15))
    pub blames : Blames press book sheet number blamed place
    pub nine : (number ≡ 9) ↔ (Accepted press book sheet × (length work < entries_needed p))
    pub fifteen : (number ≡ 15) ↔ (Ready × Member b p)
    pub zero : (number ≡ 0) ↔ (Ready × (Member b p → ⊥))
    pub first : number ≡ 0 → First b p reason
    pub no_reason : (number ≡ 0 → ⊥) → reason ≡ NoReason
    pub unwritten : ((number ≡ 0) ⊎ (number ≡ 15) → ⊥) → left ≡ work
    pub written : (number ≡ 0) ⊎ (number ≡ 15) → left ≡ tabled

  abbrev Obeys : Outcome → Type 0
  Obeys o = Answered o.answer.number o.answer.blamed o.answer.place o.reason o.entries

  pub obeys : Obeys (why_not press book sheet work)
  obeys =
      why_not-ends press book sheet work Obeys
      (record {
        refusing = λ a r.
            record {
              listed = refusal-listed r;
              blames = refusal-blames r;
              nine = refusal-never r 9 refl (λ x. x.0);
              fifteen = refusal-never r 15 refl (λ x. x.0.0);
              zero = refusal-never r 0 refl (λ x. x.0.0);
              first = λ e. absurd (refusal-other r 0 refl e);
              no_reason = λ _. refl;
              unwritten = λ _. refl;
              written = λ o. absurd (⊎_elim (refusal-other r 0 refl) (refusal-other r 15 refl) o);
            };
        short_work = λ fine short.
            record {
              listed = inr (inr (inl refl));
              blames = own-blames fine 9 0 refl (λ _. refl);
              nine = together refl (fine, short);
              fifteen = neither (λ e. omega arith) (λ x. omega (arith, x.0.1));
              zero = neither (λ e. omega arith) (λ x. omega (arith, x.0.1));
              first = λ e. absurd (omega arith);
              no_reason = λ _. refl;
              unwritten = λ _. refl;
              written = λ o. absurd (⊎_elim (λ e. omega arith) (λ e. omega arith) o);
            };
        in_family = λ fine room x.
            record {
              listed = inr (inr (inr refl));
              blames = own-blames fine 15 0 refl (λ _. refl);
              nine = neither (λ e. omega arith) (λ y. omega (arith, y.1));
              fifteen = together refl ((fine, room), x);
              zero = neither (λ e. omega arith) (λ y. y.1 x);
              first = λ e. absurd (omega arith);
              no_reason = λ _. refl;
              unwritten = λ out. absurd (out (inr refl));
              written = λ _. refl;
            };
        explained = λ fine room other first.
            record {
              listed = inl (inl (omega arith));
              blames = own-blames fine 0 0 refl (λ _. refl);
              nine = neither (λ e. omega arith) (λ y. omega (arith, y.1));
              fifteen = neither (λ e. omega arith) (λ y. other y.1);
              zero = together refl ((fine, room), other);
              first = λ _. first;
              no_reason = λ n. absurd (n refl);
              unwritten = λ out. absurd (out (inl refl));
              written = λ _. refl;
            };
      })

  -- ── The theorems ──

  -- 21 exactly where there is no such press, 1 to 8 or 18 exactly where there is and an input is refused, 9 exactly where both are accepted and the work slice is too short, 15
  -- exactly where the family has the sheet, and 0 exactly where it has not: then with the first reason that holds
  pub why_not-answered : (r : WhyNot) (left : List ℕ) → Answers (why_not press book sheet work) r left
      → Answered r.answer.number r.answer.blamed r.answer.place r.reason left
  why_not-answered r left a = rw (a.answers, a.reasons, a.leaves) obeys

  -- the same of the number that the C host gets, with the reason read off it
  module _ (r : ℕ) (left : List ℕ) (l : Leaves (why_not press book sheet work) r left) where
    abbrev o : Outcome
    o = why_not press book sheet work

    packs : Packable o
    packs = why_not-packs press book sheet work

    count_is : r / 2 ^ 32 ≡ packed_reason o.reason
    count_is = ap (λ (x : ℕ). x / 2 ^ 32) l.answers ∙ (apart o.answer (packed_reason o.reason) packs.packs).count_is

    reason-is : reason_read r ≡ o.reason
    reason-is = reason_read_lem r o.reason count_is packs.fits

    pub dv_why_not-answered : Answered (r % 2 ^ 8) (r / 2 ^ 8 % 2 ^ 4) (r / 2 ^ 12 % 2 ^ 20) (reason_read r) left
    dv_why_not-answered =
        let parts = apart o.answer (packed_reason o.reason) packs.packs in
        rw (reason-is, l.leaves) (rw l.answers (rw (parts.number_is, parts.blamed_is, parts.place_is) obeys))

    -- the kind, row, column, height and width that the header takes from it are the values of that reason: what the kind does not name is 0
    pub dv_why_not-values : values_in r ≡ values_of (reason_read r)
    dv_why_not-values = rw reason-is (values-read r o.reason count_is packs.fits)

    -- a refusal's count is 0
    pub refusal-counts-nothing : (r % 2 ^ 8 ≡ 0 → ⊥) → r / 2 ^ 32 ≡ 0
    refusal-counts-nothing n =
        let parts = apart o.answer (packed_reason o.reason) packs.packs in
        let number : r % 2 ^ 8 ≡ o.answer.number = ap (λ (x : ℕ). x % 2 ^ 8) l.answers ∙ parts.number_is in
        count_is ∙ ap packed_reason (obeys.no_reason (λ z. n (number ∙ z)))
