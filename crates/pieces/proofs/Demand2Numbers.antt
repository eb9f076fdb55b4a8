-- Demand 2, on what is answered: which number is given exactly when, of `derive` and of `dv_derive` as the host reads it. Of the ways in which a derivation ends each has its
-- number, and no two can be at once.
use Prim.Native.Nat.{ℕ, ◌%◌, ◌^◌, ◌≤◌, ◌<◌}
use mathlib.Core.Path.{◌≡◌, refl, sym, ap, ◌∙◌}
use mathlib.Core.List.{List}
use mathlib.Core.Logic.{◌↔◌}
use native.Mathlib.Omega.{arith}
use lib.ListN.{length}
use Rattle.names.proofs.Tests.{together, neither}
use Rattle.books.specs.Contents.{Contents}
use Rattle.books.specs.Picture.{Picture}
use Rattle.books.specs.Derives.{Member}
use Rattle.books.specs.Answer.{packed}
use Rattle.pieces.specs.declared.derive.Derived.{Derived}
use Rattle.books.proofs.Packing.{apart}
use Rattle.books.proofs.Refusals.{Refused, own-refused, refusal-blames, refusal-never}
use Rattle.pieces.specs.Derivation.{Derivation, entries_needed, numbers_needed, derivation, Leaves, LeavesPacked, Roomy}
use Rattle.pieces.proofs.DerivationAnswers.{derivation-packs}
use Rattle.books.specs.Lent.{contents_of, picture_of, Accepted}
use Rattle.pieces.proofs.Endings.{derivation-ends}

module _ (press : ℕ) (book sheet entries numbers : List ℕ) where
  abbrev b : Contents
  b = contents_of book

  abbrev p : Picture
  p = picture_of press sheet

  pub record Numbers (n : ℕ) : Type 0 where
    pub refused : Refused press book sheet n
    pub nine : (n ≡ 9) ↔ (Accepted press book sheet × (length entries < entries_needed p))
    pub ten : (n ≡ 10) ↔ (Accepted press book sheet × (entries_needed p ≤ length entries) × (length numbers < numbers_needed p))
    pub eleven : (n ≡ 11) ↔ (Accepted press book sheet × Roomy p entries numbers × (Member b p → ⊥))
    pub zero : (n ≡ 0) ↔ (Accepted press book sheet × Roomy p entries numbers × Member b p)

  abbrev Numbered : Derivation → Type 0
  Numbered d = Numbers d.answer.number

  numbered : Numbered (derivation press book sheet entries numbers)
  numbered =
      derivation-ends press book sheet entries numbers Numbered
      (record {
        refused = λ a r.
            record {
              refused = (refusal-blames r).refused;
              nine = refusal-never r 9 refl (λ x. x.0);
              ten = refusal-never r 10 refl (λ x. x.0);
              eleven = refusal-never r 11 refl (λ x. x.0);
              zero = refusal-never r 0 refl (λ x. x.0);
            };
        short_work = λ fine short.
            record {
              refused = own-refused fine 9 refl;
              nine = together refl (fine, short);
              ten = neither (λ e. omega arith) (λ x. omega (arith, x.1));
              eleven = neither (λ e. omega arith) (λ x. omega (arith, x.1.work_long));
              zero = neither (λ e. omega arith) (λ x. omega (arith, x.1.work_long));
            };
        short_tree = λ fine enough short.
            record {
              refused = own-refused fine 10 refl;
              nine = neither (λ e. omega arith) (λ x. omega (arith, x.1));
              ten = together refl (fine, enough, short);
              eleven = neither (λ e. omega arith) (λ x. omega (arith, x.1.tree_long));
              zero = neither (λ e. omega arith) (λ x. omega (arith, x.1.tree_long));
            };
        declined = λ fine room none.
            record {
              refused = own-refused fine 11 refl;
              nine = neither (λ e. omega arith) (λ x. omega (arith, x.1, room.work_long));
              ten = neither (λ e. omega arith) (λ x. omega (arith, x.2, room.tree_long));
              eleven = together refl (fine, room, none);
              zero = neither (λ e. omega arith) (λ x. none x.2);
            };
        derived = λ fine room x nodes given.
            record {
              refused = own-refused fine 0 refl;
              nine = neither (λ e. omega arith) (λ y. omega (arith, y.1, room.work_long));
              ten = neither (λ e. omega arith) (λ y. omega (arith, y.2, room.tree_long));
              eleven = neither (λ e. omega arith) (λ y. y.2 x);
              zero = together refl (fine, room, x);
            };
      })

  -- ── The theorems ──

  -- 21 exactly where there is no such press, 1 to 8 or 18 exactly where there is and an input is refused, 9 exactly where both are accepted and the work slice is too short, 10
  -- where only the tree slice is, 11 exactly where both are long enough and the family has not the sheet, and 0 exactly where it has it
  pub derive-numbers : {r : Derived} {w t : List ℕ} → Leaves (derivation press book sheet entries numbers) r w t → Numbers r.answer.number
  derive-numbers left = rw left.answers numbered

  pub dv_derive-numbers : {r : ℕ} {w t : List ℕ} → LeavesPacked (derivation press book sheet entries numbers) r w t → Numbers (r % 2 ^ 8)
  dv_derive-numbers left =
      let d = derivation press book sheet entries numbers in
      rw (left.answers, (apart d.answer d.trials (derivation-packs press book sheet entries numbers)).number_is) numbered

  -- the two calls do the same
  pub alike : {a : Derived} {r : ℕ} {w v t u : List ℕ} → let d = derivation press book sheet entries numbers in
      Leaves d a w t → LeavesPacked d r v u → (r ≡ packed a.answer a.trials) × (v ≡ w) × (u ≡ t)
  alike x y = (
    y.answers ∙ ap (λ (a : Derived). packed a.answer a.trials) (sym x.answers),
    y.leaves_work ∙ sym x.leaves_work,
    y.leaves_tree ∙ sym x.leaves_tree,
  )
