-- Demand 1, of the call: from any bytes, which number it answers and exactly when, and which input it blames and where. Stated on the parts of the answer, and for the C host
-- on the number taken apart as the header does. Each way in which the call ends has its number, and no two can be at once.
use Prim.Native.Nat.{ℕ, ◌/◌, ◌%◌, ◌^◌, ◌≤◌, ◌<◌}
use mathlib.Core.Path.{◌≡◌, refl}
use mathlib.Core.List.{List}
use mathlib.Core.Logic.{◌↔◌, ◌⊎◌, inl, inr}
use native.Mathlib.Omega.{arith}
use Rattle.names.proofs.Tests.{together, neither}
use Rattle.books.specs.Answer.{InputsNumber, packed, Packs}
use Rattle.books.specs.Derives.{Member}
use Rattle.books.specs.Lent.{contents_of, picture_of, Accepted}
use Rattle.books.specs.declared.answer.Answer.{Answer}
use Rattle.books.proofs.Packing.{apart, plain-packs}
use Rattle.books.proofs.Refusals.{Blames, own-blames, refusal-listed, refusal-blames, refusal-never, refusal-packs}
use Rattle.plain.specs.Outcome.{most_cells, cells, plain_answer}
use Rattle.plain.proofs.Endings.{plain-ends}

module _ (press : ℕ) (book sheet : List ℕ) where
  -- the sheet has no more cells than are taken, and its family has it
  abbrev pub Few : Type 0
  Few = cells (picture_of press sheet) ≤ most_cells

  abbrev pub Has : Type 0
  Has = Member (contents_of book) (picture_of press sheet)

  -- A call that was lent a book and a sheet answers so.
  pub record Answered (number blamed place : ℕ) : Type 0 where
    pub listed : InputsNumber number ⊎ ((number ≡ 21) ⊎ (number ≡ 11) ⊎ (number ≡ 20))
    pub blames : Blames press book sheet number blamed place
    pub twenty : (number ≡ 20) ↔ (Accepted press book sheet × (most_cells < cells (picture_of press sheet)))
    pub eleven : (number ≡ 11) ↔ (Accepted press book sheet × Few × (Has → ⊥))
    pub zero : (number ≡ 0) ↔ (Accepted press book sheet × Few × Has)

  abbrev Obeys : Answer → Type 0
  Obeys a = Answered a.number a.blamed a.place

  obeys : Obeys (plain_answer press book sheet)
  obeys =
      plain-ends press book sheet Obeys
      (record {
        refused = λ a r.
            record {
              listed = refusal-listed r;
              blames = refusal-blames r;
              twenty = refusal-never r 20 refl (λ x. x.0);
              eleven = refusal-never r 11 refl (λ x. x.0);
              zero = refusal-never r 0 refl (λ x. x.0);
            };
        too_many = λ fine many.
            record {
              listed = inr (inr (inr refl));
              blames = own-blames fine 20 0 refl (λ _. refl);
              twenty = together refl (fine, many);
              eleven = neither (λ e. omega arith) (λ x. omega (arith, x.1));
              zero = neither (λ e. omega arith) (λ x. omega (arith, x.1));
            };
        declined = λ fine few none.
            record {
              listed = inr (inr (inl refl));
              blames = own-blames fine 11 0 refl (λ _. refl);
              twenty = neither (λ e. omega arith) (λ x. omega (arith, x.1));
              eleven = together refl (fine, few, none);
              zero = neither (λ e. omega arith) (λ x. none x.2);
            };
        derived = λ fine few has.
            record {
              listed = inl (inl (omega arith));
              blames = own-blames fine 0 0 refl (λ _. refl);
              twenty = neither (λ e. omega arith) (λ x. omega (arith, x.1));
              eleven = neither (λ e. omega arith) (λ x. x.2 has);
              zero = together refl (fine, few, has);
            };
      })

  pub plain_answer-packs : Packs (plain_answer press book sheet) 0
  plain_answer-packs =
      plain-ends press book sheet (λ a. Packs a 0)
      (record {
        refused = λ a r. refusal-packs r;
        too_many = λ _ _. plain-packs 20 0 (omega arith) (omega arith);
        declined = λ _ _ _. plain-packs 11 0 (omega arith) (omega arith);
        derived = λ _ _ _. plain-packs 0 0 (omega arith) (omega arith);
      })

  -- ── The theorems ──

  -- 21 exactly where there is no such press, 1 to 8 or 18 exactly where there is and an input is refused, 20 exactly where both are accepted and the sheet has more than 16 cells,
  -- 11 exactly where it has no more and the family has not the sheet, and 0 exactly where it has it
  pub plain-answered : (r : Answer) → r ≡ plain_answer press book sheet → Answered r.number r.blamed r.place
  plain-answered r e = rw e obeys

  pub record Called (r : ℕ) : Type 0 where
    pub parts : Answered (r % 2 ^ 8) (r / 2 ^ 8 % 2 ^ 4) (r / 2 ^ 12 % 2 ^ 20)
    pub counted : r / 2 ^ 32 ≡ 0

  pub dv_plain-called : (r : ℕ) → r ≡ packed (plain_answer press book sheet) 0 → Called r
  dv_plain-called r e =
      let a = apart (plain_answer press book sheet) 0 plain_answer-packs in
      rw e (record { parts = rw (a.number_is, a.blamed_is, a.place_is) obeys; counted = a.count_is })
