-- The trials that a derivation reports, of `derive` and of `dv_derive` as the host reads it: with 0 and 11 as many as the list of all trials has, and as the formula says, and
-- with every other answer 0. Of the ways in which a derivation ends two come after the table.
use Prim.Native.Nat.{ℕ, ◌/◌, ◌%◌, ◌^◌, ◌≤◌}
use mathlib.Core.Path.{◌≡◌, refl}
use mathlib.Core.List.{List}
use mathlib.Core.Logic.{◌⊎◌, ⊎_elim}
use native.Mathlib.Omega.{arith}
use lib.ListN.{length}
use Rattle.books.specs.Press.{greatest_of}
use Rattle.books.specs.Lent.{contents_of, picture_of, Accepted}
use Rattle.books.specs.declared.rule.Dir.TheVariants.{Across as across, Down as down}
use Rattle.books.proofs.Packing.{apart}
use Rattle.books.proofs.Refusals.{refusal-other}
use Rattle.pieces.specs.Derivation.{Derivation, trials_needed, derivation, Leaves, LeavesPacked}
use Rattle.pieces.specs.Trials.{trials, rules_of, trials_for, most_trials}
use Rattle.pieces.specs.declared.derive.Derived.{Derived}
use Rattle.pieces.proofs.CountingTrials.{trials-formula}
use Rattle.pieces.proofs.DerivationAnswers.{needed-few, derivation-packs}
use Rattle.pieces.proofs.Endings.{derivation-ends}

-- what an answer's number says of the count that it carries
pub record Counts (press : ℕ) (book sheet : List ℕ) (number count : ℕ) : Type 0 where
  pub tried : (number ≡ 0) ⊎ (number ≡ 11) → let b = contents_of book in
      let p = picture_of press sheet in
      (count ≡ length (trials b.rules p.rows p.cols)) × (count ≡ trials_for (rules_of across b.rules) (rules_of down b.rules) p.rows p.cols)
  pub untried : 1 ≤ number → (number ≡ 11 → ⊥) → count ≡ 0
  pub few : count ≤ most_trials (greatest_of press)

module _ (press : ℕ) (book sheet work tree : List ℕ) where
  abbrev Counted : Derivation → Type 0
  Counted d = Counts press book sheet d.answer.number d.trials

  -- no table, ...
  none : (n : ℕ) → (n ≡ 0 → ⊥) → (n ≡ 11 → ⊥) → Counts press book sheet n 0
  none n h g = record { tried = λ e. absurd (⊎_elim h g e); untried = λ _ _. refl; few = omega arith }

  -- ... or a table
  all : (n : ℕ) → Accepted press book sheet → (1 ≤ n → (n ≡ 11 → ⊥) → ⊥) → Counts press book sheet n (trials_needed (contents_of book) (picture_of press sheet))
  all n fine not =
      record {
        tried = λ _. (refl, trials-formula (contents_of book).rules (picture_of press sheet).rows (picture_of press sheet).cols);
        untried = λ h g. absurd (not h g);
        few = needed-few press book sheet fine;
      }

  counted : Counted (derivation press book sheet work tree)
  counted =
      derivation-ends press book sheet work tree Counted
      (record {
        refused = λ a r. none a.number (refusal-other r 0 refl) (refusal-other r 11 refl);
        short_work = λ fine short. none 9 (λ e. omega arith) (λ e. omega arith);
        short_tree = λ fine enough short. none 10 (λ e. omega arith) (λ e. omega arith);
        declined = λ fine room no. all 11 fine (λ h g. g refl);
        derived = λ fine room x nodes given. all 0 fine (λ h g. omega arith);
      })

  -- ── The theorems ──

  pub derive-counts : {r : Derived} {w t : List ℕ} → Leaves (derivation press book sheet work tree) r w t → Counts press book sheet r.answer.number r.trials
  derive-counts left = rw left.answers counted

  pub dv_derive-counts : {r : ℕ} {w t : List ℕ} → LeavesPacked (derivation press book sheet work tree) r w t → Counts press book sheet (r % 2 ^ 8) (r / 2 ^ 32)
  dv_derive-counts left =
      let d = derivation press book sheet work tree in
      let parts = apart d.answer d.trials (derivation-packs press book sheet work tree) in
      rw (left.answers, parts.number_is, parts.count_is) counted
