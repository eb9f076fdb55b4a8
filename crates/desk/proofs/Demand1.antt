-- Demand 1, of the call: whatever the bytes, the slices and the numbers, it answers 0 to 9, 11, 18, 19 or 21, each exactly when its row says; a fault blames the input in which
-- it stands at a place within it; and unless 0 or 11 is answered nothing is written. Stated on the number that a C host gets, taken apart as the header does.
use Prim.Native.Nat.{ℕ, ◌/◌, ◌%◌, ◌^◌}
use mathlib.Core.Path.{◌≡◌, refl}
use mathlib.Core.List.{List}
use mathlib.Core.Logic.{◌↔◌, ◌⊎◌, inl, inr, ⊎_elim}
use native.Mathlib.Omega.{arith}
use Rattle.names.proofs.Tests.{together, neither}
use Rattle.books.specs.Answer.{InputsNumber, Packs}
use Rattle.books.specs.Lent.{Accepted}
use Rattle.books.proofs.Packing.{apart, plain-packs}
use Rattle.books.proofs.Refusals.{Blames, own-blames, refusal-bad, refusal-listed, refusal-blames, refusal-other, refusal-never, refusal-packs}
use Rattle.desk.specs.Recolour.{Recolouring, recolouring, RecoloursPacked}
use Rattle.desk.proofs.Endings as ways

module _ (press : ℕ) (book sheet entries : List ℕ) (row column colour : ℕ) where
  abbrev pub Found : Type 0
  Found = ways.Found press book sheet entries row column colour

  abbrev pub Short : Type 0
  Short = ways.Short press book sheet entries row column colour

  pub record Answered (number blamed place : ℕ) (sheet-left work_left : List ℕ) : Type 0 where
    pub listed : InputsNumber number ⊎ ((number ≡ 21) ⊎ (number ≡ 9) ⊎ (number ≡ 11) ⊎ (number ≡ 19))
    pub blames : Blames press book sheet number blamed place
    pub nineteen : (number ≡ 19) ↔ (Accepted press book sheet × (Found → ⊥))
    pub nine : (number ≡ 9) ↔ (Accepted press book sheet × Found × Short)
    pub done : ((number ≡ 0) ⊎ (number ≡ 11)) ↔ (Accepted press book sheet × Found × (Short → ⊥))
    pub unwritten : ((number ≡ 0) ⊎ (number ≡ 11) → ⊥) → (sheet-left ≡ sheet) × (work_left ≡ entries)

  abbrev Obeys : Recolouring → Type 0
  Obeys d = Answered d.answer.number d.answer.blamed d.answer.place d.bytes d.entries

  obeys : Obeys (recolouring press book sheet entries row column colour)
  obeys =
      ways.recolouring-ends press book sheet entries row column colour Obeys
      (record {
        refused = λ a r.
            record {
              listed = refusal-listed r;
              blames = refusal-blames r;
              nineteen = refusal-never r 19 refl (λ x. x.0);
              nine = refusal-never r 9 refl (λ x. x.0);
              done = neither (⊎_elim (refusal-other r 0 refl) (refusal-other r 11 refl)) (λ x. refusal-bad r x.0);
              unwritten = λ _. (refl, refl);
            };
        no_cell = λ fine none.
            record {
              listed = inr (inr (inr (inr refl)));
              blames = own-blames fine 19 0 refl (λ _. refl);
              nineteen = together refl (fine, none);
              nine = neither (λ e. omega arith) (λ x. none x.1);
              done = neither (⊎_elim (λ e. omega arith) (λ e. omega arith)) (λ x. none x.1);
              unwritten = λ _. (refl, refl);
            };
        short_work = λ fine found short.
            record {
              listed = inr (inr (inl refl));
              blames = own-blames fine 9 0 refl (λ _. refl);
              nineteen = neither (λ e. omega arith) (λ x. x.1 found);
              nine = together refl (fine, found, short);
              done = neither (⊎_elim (λ e. omega arith) (λ e. omega arith)) (λ x. x.2 short);
              unwritten = λ _. (refl, refl);
            };
        recoloured = λ fine found long n told bytes work.
            record {
              listed = ⊎_elim (λ z. inl (inl (omega arith))) (λ z. inr (inr (inr (inl z)))) told;
              blames = own-blames fine n 0 (⊎_elim (λ e. rw e refl) (λ e. rw e refl) told) (λ _. refl);
              nineteen = neither (λ e. ⊎_elim (λ z. omega arith) (λ z. omega arith) told) (λ x. x.1 found);
              nine = neither (λ e. ⊎_elim (λ z. omega arith) (λ z. omega arith) told) (λ x. long x.2);
              done = together told (fine, found, long);
              unwritten = λ out. absurd (out told);
            };
      })

  packs : Packs (recolouring press book sheet entries row column colour).answer 0
  packs =
      ways.recolouring-ends press book sheet entries row column colour (λ d. Packs d.answer 0)
      (record {
        refused = λ a r. refusal-packs r;
        no_cell = λ fine none. plain-packs 19 0 (omega arith) (omega arith);
        short_work = λ fine found short. plain-packs 9 0 (omega arith) (omega arith);
        recoloured = λ fine found long n told bytes work. plain-packs n 0 (⊎_elim (λ e. omega arith) (λ e. omega arith) told) (omega arith);
      })

  -- ── The theorem ──

  pub record Called (r : ℕ) (sheet-left work_left : List ℕ) : Type 0 where
    pub answered : Answered (r % 2 ^ 8) (r / 2 ^ 8 % 2 ^ 4) (r / 2 ^ 12 % 2 ^ 20) sheet-left work_left
    pub counted : r / 2 ^ 32 ≡ 0

  pub dv_recolour-called : {r : ℕ} {sheet-left work_left : List ℕ} → RecoloursPacked (recolouring press book sheet entries row column colour) r sheet-left work_left
      → Called r sheet-left work_left
  dv_recolour-called left =
      let parts = apart (recolouring press book sheet entries row column colour).answer 0 packs in
      rw (left.answers, left.leaves_sheet, left.leaves_work)
      (record { answered = rw (parts.number_is, parts.blamed_is, parts.place_is) obeys; counted = parts.count_is })
