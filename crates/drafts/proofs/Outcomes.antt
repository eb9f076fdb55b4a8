-- The outcome of a call that writes a book has few ends: a lent book goes on or is refused, and contents are written or find no room. What holds of each end holds
-- of the outcome; so every outcome packs into one number, and a host reads it off again.
use Prim.Native.Nat.{ℕ, ◌≤◌, ◌<◌, ◌^◌}
use mathlib.Core.Path.{◌≡◌, refl, ◌∙◌, ap, subst, subst⁻¹}
use mathlib.Core.Bool.{Bool}
use mathlib.Core.List.{List}
use native.Mathlib.Omega.{arith}
use lib.Dec.{leb}
use lib.ListN.{length}
use borrow.Author.Tests.{eq-eqb, ne_eqb, leb-true, leb-false}
use Rattle.names.specs.Pick.{pick}
use Rattle.names.proofs.Picking.{pick_ind}
use Rattle.books.specs.Answer.{answer, plain, blaming, packed, Packs, answer_in, count_in}
use Rattle.books.specs.Book.{book_by, IsBookBy}
use Rattle.books.specs.Contents.{Contents}
use Rattle.books.specs.ContentsIn.{contents_in}
use Rattle.books.specs.Keeps.{Keeps}
use Rattle.books.specs.Lent.{contents_by}
use Rattle.books.specs.SpellBook.{spell_book}
use Rattle.books.specs.declared.answer.Answer.{Answer}
use Rattle.books.specs.BookRead.{BookRead}
use Rattle.books.proofs.LentEnds.{blamed_is, book-ends}
use Rattle.books.proofs.LongestBook.{spelling-length}
use Rattle.books.proofs.Packing.{apart, plain-packs, book-placed-by}
use Rattle.books.proofs.ReadingBooks.{book-lies-by}
use Rattle.drafts.specs.Outcome.{Outcome, refused, spelled, written, lent_by, Leaves}

-- the refusal of a book that is lent as this input
abbrev pub blamed_by : Bool → ℕ → List ℕ → List ℕ → Outcome
blamed_by strict input s out = refused (answer (book_by strict s).fault.number input (book_by strict s).fault.place) out

-- ── Its ends ──

module _ (P : Outcome → Type 0) (out : List ℕ) where
  pub written-ends : (c : Contents) → (length (spell_book c) ≤ length out → P (spelled c out))
      → (length out < length (spell_book c) → P (refused (plain 13) out)) → P (written c out)
  unfolding written
  written-ends c fits short =
      pick_ind P (leb (length (spell_book c)) (length out)) (spelled c out) (refused (plain 13) out)
      (λ e. fits (leb-true _ _ e))
      (λ e. short (leb-false _ _ e))

  pub lent-ends : (strict : Bool) (input : ℕ) (s : List ℕ) (go : Contents → Outcome) → (IsBookBy strict s → P (go (contents_by strict s)))
      → (((book_by strict s).fault.number ≡ 0 → ⊥) → P (blamed_by strict input s out))
      → P (lent_by strict input s out go)
  unfolding lent_by
  lent-ends strict input s go went refuse = book-ends P (λ a. refused a out) strict input s go refuse (λ z. went (book-lies-by strict s z).fine)

-- ── A book that was read ──

module _ (strict : Bool) (s : List ℕ) (b : BookRead) (read : b ≡ book_by strict s) where
  -- an accepted one goes on, ...
  pub read-accepted : (input : ℕ) (out : List ℕ) (go : Contents → Outcome) → b.fault.number ≡ 0
      → lent_by strict input s out go ≡ go (contents_in s b.family)
  unfolding lent_by
  read-accepted input out go z = rw read (simp (eq-eqb _ _ (rw read at z)))

  -- ... and a refused one is blamed
  pub blamed-leaves : (input : ℕ) (a : Answer) → a ≡ blaming input b.fault → (out : List ℕ) (go : Contents → Outcome) (r : ℕ) → (b.fault.number ≡ 0 → ⊥)
      → r ≡ packed a 0 → Leaves (lent_by strict input s out go) r out
  unfolding lent_by
  blamed-leaves input a is out go r z e =
      let o : Outcome = refused (blaming input (book_by strict s).fault) out in
      subst⁻¹ (λ (p : Outcome). Leaves p r out) (ap (λ (t : Bool). pick t (go (contents_by strict s)) o) (ne_eqb (book_by strict s).fault.number 0 (rw read at z)))
      (record { answers = simp (is, read) at e; leaves = refl })

-- ── One number ──

abbrev pub Packed : Outcome → Type 0
Packed o = Packs o.answer o.count

pub spelled-packs : (c : Contents) (out : List ℕ) → Keeps c → Packed (spelled c out)
spelled-packs c out keeps = plain-packs 0 _ (omega arith) (omega (arith, spelling-length c keeps))

pub refused-packs : (n : ℕ) (out : List ℕ) → n < 2 ^ 8 → Packed (refused (plain n) out)
refused-packs n out few = plain-packs n 0 few (omega arith)

module _ (strict : Bool) (input : ℕ) (s out : List ℕ) where
  pub blamed-packs : input < 2 ^ 4 → ((book_by strict s).fault.number ≡ 0 → ⊥) → Packed (blamed_by strict input s out)
  blamed-packs few some = subst (λ (a : Answer). Packs a 0) (blamed_is input (book_by strict s).fault some) (book-placed-by strict s input few).packs

  pub lent-packs : (go : Contents → Outcome) → input < 2 ^ 4 → (IsBookBy strict s → Packed (go (contents_by strict s))) → Packed (lent_by strict input s out go)
  lent-packs go few packs = lent-ends Packed out strict input s go packs (blamed-packs few)

-- what a host reads off a call's number, with the slice that it finds
abbrev pub read_of : ℕ → List ℕ → Outcome
read_of r left = record { answer = answer_in r; count = count_in r; out = left }

pub read_off : (o : Outcome) (left : List ℕ) (r : ℕ) → Packed o → Leaves o r left → read_of r left ≡ o
read_off o left r packs leaves =
    let parts = apart o.answer o.count packs in
    (λ i. read_of (leaves.answers i) (leaves.leaves i))
    ∙ (λ i. record { answer = answer (parts.number_is i) (parts.blamed_is i) (parts.place_is i); count = parts.count_is i; out = o.out })
