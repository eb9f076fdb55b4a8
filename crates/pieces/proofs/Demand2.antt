-- Demand 2, of the call: a sheet is accepted exactly when the rules derive it, the derivation given is the one that the rules single out, and the table lists
-- exactly the motifs that derive each piece. Stated from the bytes of the lent book and sheet. Of the ways in which a derivation ends two are left where both inputs
-- are accepted and both slices long enough.
use Prim.Native.Nat.{ℕ}
use mathlib.Core.Path.{◌≡◌, refl, sym, ap, ◌∙◌}
use mathlib.Core.Bool.{true, false}
use mathlib.Core.List.{List, ◌++◌}
use mathlib.Core.Logic.{◌↔◌, ⊎_elim}
use native.Mathlib.Omega.{arith}
use lib.ListN.{length, get_or, drop}
use Rattle.names.proofs.Tests.{true-or-false}
use Rattle.names.specs.Bytes.{Bytes}
use Rattle.books.specs.Contents.{Contents}
use Rattle.books.specs.Picture.{Picture}
use Rattle.books.specs.Derives.{Derives, Member}
use Rattle.books.specs.Decide.{derives?}
use Rattle.books.specs.Answer.{plain}
use Rattle.books.specs.declared.answer.Answer.{Answer}
use Rattle.books.proofs.Refusals.{refusal-bad}
use Rattle.books.proofs.Deciding.{decided, refused}
use Rattle.books.proofs.ReadingBooks.{book-accepted}
use Rattle.pieces.specs.declared.piece.Piece.{Piece}
use Rattle.pieces.specs.Pieces.{Inside, slot_of}
use Rattle.pieces.specs.Table.{cut, table}
use Rattle.names.specs.Bits.{bit}
use Rattle.pieces.specs.Given.{Given}
use Rattle.pieces.specs.Derivation.{Derivation, entries_needed, filled, derivation, Left, Leaves, LeavesPacked, Roomy}
use Rattle.pieces.proofs.Entries.{entry-derives, derives-entry}
use Rattle.pieces.proofs.ExactViews.{motif-below}
use Rattle.pieces.proofs.Judging.{filled-holds, held-entry}
use Rattle.books.specs.Lent.{contents_of, picture_of, Accepted}
use Rattle.pieces.specs.declared.derive.Derived.{Derived}
use Rattle.pieces.proofs.Endings.{derivation-ends}

-- derived: answer 0, and the derivation given stands in the tree slice
pub record Accepts (b : Contents) (p : Picture) (numbers : List ℕ) (d : Derivation) : Type 0 where
  pub answered : d.answer ≡ plain 0
  pub nodes : List ℕ
  pub given : Given b b.start p nodes
  pub written : d.numbers ≡ nodes ++ drop (length nodes) numbers

-- not derived: answer 11, and the tree slice is as it was
pub record Declines (numbers : List ℕ) (d : Derivation) : Type 0 where
  pub answered : d.answer ≡ plain 11
  pub unwritten : d.numbers ≡ numbers

-- ── The theorems, from bytes ──

module _ (press : ℕ) (book sheet entries numbers : List ℕ) (fine : Accepted press book sheet) (room : Roomy (picture_of press sheet) entries numbers) where
  abbrev b : Contents
  b = contents_of book

  abbrev p : Picture
  p = picture_of press sheet

  abbrev outcome_of : Derivation
  outcome_of = derivation press book sheet entries numbers

  record Told (d : Derivation) : Type 0 where
    accepts : Member b p → Accepts b p numbers d
    declines : (Member b p → ⊥) → Declines numbers d
    holds : d.entries ≡ filled b p entries

  told : Told outcome_of
  told =
      derivation-ends press book sheet entries numbers Told
      (record {
        refused = λ a r. absurd (refusal-bad r fine);
        short_work = λ f short. absurd (omega (arith, room.work_long));
        short_tree = λ f enough short. absurd (omega (arith, room.tree_long));
        declined = λ f r none. record { accepts = λ x. absurd (none x); declines = λ _. record { answered = refl; unwritten = refl }; holds = refl };
        derived = λ f r x nodes given.
            record { accepts = λ _. record { answered = refl; nodes = nodes; given = given; written = refl }; declines = λ n. absurd (n x); holds = refl };
      })

  -- a derived sheet is accepted, with the derivation given
  pub derived-accepted : Member b p → Accepts b p numbers outcome_of
  derived-accepted x = told.accepts x

  -- any other is answered 11
  pub other-declined : (Member b p → ⊥) → Declines numbers outcome_of
  other-declined n = told.declines n

  -- accepted exactly when the rules derive it
  pub accepted-exactly : (outcome_of.answer ≡ plain 0) ↔ Member b p
  accepted-exactly = (
    λ e. ⊎_elim
        (λ (t : derives? b b.start p ≡ true). (decided b b.start p).0 t)
        (λ (t : derives? b b.start p ≡ false).
        let z : ◌≡◌ {A = ℕ} 11 0 = ap (λ (a : Answer). a.number) (sym (other-declined ((refused b b.start p).0 t)).answered ∙ e) in
        absurd (omega arith))
        (true-or-false (derives? b b.start p)),
    λ x. (derived-accepted x).answered,
  )

  -- the work slice holds the table, and the slice beyond is as it was
  pub table-written : outcome_of.entries ≡ table b p ++ drop (entries_needed p) entries
  table-written = told.holds

  -- whose bit a at a piece is set exactly when motif a derives the piece
  pub bit-exactly : Bytes book → (a : ℕ) (q : Piece) → Inside p.rows p.cols q
      → (bit (get_or outcome_of.entries (slot_of p.rows p.cols q) 0) a ≡ 1) ↔ Derives b a (cut p q)
  bit-exactly bytes a q inq =
      let sound = (book-accepted book bytes fine.book_fine).keeps.sound in
      rw (table-written, held-entry b p (filled b p entries) (filled-holds b p entries) q inq)
      (entry-derives b (cut p q) a, λ x. derives-entry b (cut p q) a (motif-below b sound x) x)

-- ── Two outcomes that a contract allows are equal ──

module _ {A : Type 0} {told : Answer → ℕ → A} {d : Derivation} {r q : A} {w v t u : List ℕ} where
  settled : Left told d r w t → Left told d q v u → (r ≡ q) × (w ≡ v) × (t ≡ u)
  settled x y = (x.answers ∙ sym y.answers, x.leaves_work ∙ sym y.leaves_work, x.leaves_tree ∙ sym y.leaves_tree)

module _ (press : ℕ) (book sheet entries numbers : List ℕ) where
  pub derive-settled : {r q : Derived} {w v t u : List ℕ} → let d = derivation press book sheet entries numbers in
      Leaves d r w t → Leaves d q v u → (r ≡ q) × (w ≡ v) × (t ≡ u)
  derive-settled x y = settled x y

  pub dv_derive-settled : {r q : ℕ} {w v t u : List ℕ} → let d = derivation press book sheet entries numbers in
      LeavesPacked d r w t → LeavesPacked d q v u → (r ≡ q) × (w ≡ v) × (t ≡ u)
  dv_derive-settled x y = settled x y
