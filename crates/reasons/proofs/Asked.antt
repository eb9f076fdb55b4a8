-- What asking the book for the sheet tells of the outcome: where it answers 0 the sheet is in the family, 11 calls for the reason, and every other answer stays.
-- On 11 the work slice holds the table, so that the reason which it shows is the reason.
use Prim.Native.Nat.{ℕ, ◌≤◌}
use mathlib.Core.Path.{◌≡◌, refl, sym, ap, ap₂, ◌∙◌}
use mathlib.Core.Bool.{Bool}
use mathlib.Core.List.{List}
use native.Mathlib.Omega.{arith}
use lib.ListN.{length}
use Rattle.std.specs.Prelude.{Ok, Err}
use Rattle.names.specs.Fault.{Fault}
use Rattle.names.specs.Bytes.{Bytes}
use Rattle.books.specs.Contents.{Contents}
use Rattle.books.specs.Picture.{Picture}
use Rattle.books.specs.Answer.{plain, blaming}
use Rattle.books.specs.declared.answer.Answer.{Answer}
use Rattle.books.specs.Book.{book_of}
use Rattle.books.specs.Sheet.{sheet_of}
use Rattle.books.specs.Press.{greatest_of, IsPress}
use Rattle.books.specs.Size.{Within}
use Rattle.books.proofs.ReadingBooks.{book-accepted}
use Rattle.books.proofs.LentEnds.{Refusal, no_press, in_book, in_sheet, refused-so}
use Rattle.books.proofs.Refusals.{refusal-other}
use Rattle.books.proofs.Presses.{greatest-few}
use Rattle.books.proofs.ReadingSheets.{sheet-lies}
use Rattle.books.proofs.SizesWithin.{within_more}
use Rattle.pieces.specs.Asking.{Asking, asking, SplitFrom, Asks}
use Rattle.pieces.specs.Derivation.{entries_needed, filled}
use Rattle.pieces.specs.Pieces.{total}
use Rattle.pieces.specs.declared.asking.Asked.{Asked}
use Rattle.books.specs.Lent.{contents_of, picture_of}
use Rattle.pieces.specs.Split.{Split}
use Rattle.pieces.proofs.AskingSheets.{kept-start}
use Rattle.pieces.proofs.AskingAnswers.{sheet-first, room-second, derived-asked, other-asked}
use Rattle.pieces.proofs.Judging.{filled-holds, filled-length}
use Rattle.sizes.specs.Table.{has_size_by}
use Rattle.sizes.proofs.OneSize.{placed-has}
use Rattle.reasons.specs.declared.reason.Reason.{Reason}
use Rattle.reasons.specs.Why.{Outcome, refused, reason_of, roomed, why_not, Answers}
use Rattle.reasons.specs.inner.FromTable.{reason_in, told_why}
use Rattle.reasons.proofs.Endings.{why_not-ends}
use Rattle.reasons.proofs.FromTables.{reason-shown}

module _ (press : ℕ) (book sheet entries : List ℕ) where
  abbrev b : Contents
  b = contents_of book

  abbrev p : Picture
  p = picture_of press sheet

  abbrev explained : Outcome
  explained = record { answer = plain 0; reason = reason_of b p; entries = filled b p entries }

  -- ── What follows for the outcome ──

  -- where a reason is called for
  pub record Called (o : Outcome) (a : Asking) : Type 0 where
    pub is : o ≡ explained
    pub holds : a.entries ≡ filled b p entries
    pub sheet_fine : (sheet_of press sheet).fault.number ≡ 0
    pub room : entries_needed p ≤ length entries

  pub record Follows (o : Outcome) (a : Asking) : Type 0 where
    pub zero : a.answer.number ≡ 0 → o ≡ refused (plain 15) a.entries
    pub eleven : a.answer.number ≡ 11 → Called o a
    pub other : (a.answer.number ≡ 0 → ⊥) → (a.answer.number ≡ 11 → ⊥) → o ≡ refused a.answer a.entries

  pub follows : IsPress press → (book_of book).fault.number ≡ 0 → Follows (why_not press book sheet entries) (asking press book sheet entries)
  follows is book_fine =
      why_not-ends press book sheet entries (λ o. Follows o (asking press book sheet entries))
      (record {
        refusing = λ a r. out r;
        short_work = λ fine short.
            rw (room-second press book sheet entries fine.sheet_fine short)
            (record { zero = λ e. absurd (omega arith); eleven = λ e. absurd (omega arith); other = λ _ _. refl });
        in_family = λ fine room x.
            rw (derived-asked press book sheet entries fine room x)
            (record { zero = λ _. refl; eleven = λ e. absurd (omega arith); other = λ n _. absurd (n refl) });
        explained = λ fine room none first.
            rw (other-asked press book sheet entries fine room none)
            (record {
              zero = λ e. absurd (omega arith);
              eleven = λ _. record { is = refl; holds = refl; sheet_fine = fine.sheet_fine; room = room };
              other = λ _ n. absurd (n refl);
            });
      })
    where
      out : {a : Answer} → Refusal press book sheet a → Follows (refused a entries) (asking press book sheet entries)
      out (no_press none) = absurd (none is)
      out (in_book _ n) = absurd (n book_fine)
      out (in_sheet on z n) =
          let other = refusal-other (in_sheet on z n) in
          rw (sheet-first press book sheet entries n)
          (record { zero = λ e. absurd (other 0 refl e); eleven = λ e. absurd (other 11 refl e); other = λ _ _. refl })

-- ── What is told ──

refused-first : (press : ℕ) (book sheet entries : List ℕ) {a : Answer} → Refusal press book sheet a → why_not press book sheet entries ≡ refused a entries
unfolding why_not
refused-first press book sheet entries r = refused-so press (λ a. refused a entries) book sheet (λ b p. roomed b p entries) r

module _ (press : ℕ) (book sheet entries : List ℕ) (a : Answer) where
  pub told-no-press : (IsPress press → ⊥) → a ≡ plain 21 → Answers (why_not press book sheet entries) (told_why (Err a)) entries
  told-no-press n e =
      rw (refused-first press book sheet entries (no_press n))
      (record { answers = e; reasons = refl; leaves = refl })

  pub told-faulty : IsPress press → (f : Fault) → f ≡ (book_of book).fault → (f.number ≡ 0 → ⊥) → a ≡ blaming 1 f → Answers (why_not press book sheet entries) (told_why (Err a)) entries
  told-faulty is f read n e =
      rw (refused-first press book sheet entries (in_book is (λ z. n (ap (λ (x : Fault). x.number) read ∙ z))))
      (record { answers = e ∙ ap (blaming 1) read; reasons = refl; leaves = refl })

  module _ (left : List ℕ) (r : Asked) {before cells : List ℕ} (asks : Asks press book sheet before entries r cells left) (is : IsPress press) (book_fine : (book_of book).fault.number ≡ 0) where
    number-asked : (n : ℕ) → r.answer.number ≡ n → (asking press book sheet entries).answer.number ≡ n
    number-asked n e = sym (ap (λ (x : Answer). x.number) asks.answers) ∙ e

    other-number : (n : ℕ) → (r.answer.number ≡ n → ⊥) → (asking press book sheet entries).answer.number ≡ n → ⊥
    other-number n none e = none (ap (λ (x : Answer). x.number) asks.answers ∙ e)

    pub told_in : r.answer.number ≡ 0 → a ≡ plain 15 → Answers (why_not press book sheet entries) (told_why (Err a)) left
    told_in z e =
        rw ((follows press book sheet entries is book_fine).zero (number-asked 0 z))
        (record { answers = e; reasons = refl; leaves = asks.leaves_work })

    pub told-refused : (r.answer.number ≡ 0 → ⊥) → (r.answer.number ≡ 11 → ⊥) → a ≡ r.answer → Answers (why_not press book sheet entries) (told_why (Err a)) left
    told-refused n m e =
        rw ((follows press book sheet entries is book_fine).other (other-number 0 n) (other-number 11 m))
        (record { answers = e ∙ asks.answers; reasons = refl; leaves = asks.leaves_work })

-- ── The reason that the code finds ──

module _ (press : ℕ) (book sheet entries left : List ℕ) (r : Asked) {before cells : List ℕ} (asks : Asks press book sheet before entries r cells left)
    (is : IsPress press) (book_fine : (book_of book).fault.number ≡ 0) (eleven : r.answer.number ≡ 11) where
  called : Called press book sheet entries (why_not press book sheet entries) (asking press book sheet entries)
  called = (follows press book sheet entries is book_fine).eleven (sym (ap (λ (x : Answer). x.number) asks.answers) ∙ eleven)

  holds : left ≡ filled (contents_of book) (picture_of press sheet) entries
  holds = asks.leaves_work ∙ called.holds

  sizes : Within (greatest_of press) (picture_of press sheet).rows (picture_of press sheet).cols
  sizes = (sheet-lies press sheet called.sheet_fine).within

  pub sizes-asked : Within (greatest_of press) r.size.rows r.size.cols
  sizes-asked = rw asks.size sizes

  pub room-asked : total r.size.rows r.size.cols ≤ length left
  room-asked = rw (asks.size, holds, filled-length (contents_of book) (picture_of press sheet) entries called.room) called.room

  reason-found : (split : Split) (masks : List ℕ) → SplitFrom book split masks → Bytes book → let p = picture_of press sheet in
      reason_in (has_size_by press masks split.joins split.start p.rows p.cols) left split.start p.rows p.cols ≡ reason_of (contents_of book) p
  reason-found split masks from bytes =
      let p = picture_of press sheet in
      ap₂ (λ (has : Bool) (a : ℕ). reason_in has left a p.rows p.cols) (placed-has book bytes split masks from press p.rows p.cols sizes)
      (kept-start book from.before from.is)
      ∙ reason-shown (contents_of book) p (book-accepted book bytes book_fine).keeps.sound (within_more (greatest-few press) sizes) left
      (rw holds (filled-holds (contents_of book) p entries))

  pub told-reason : Bytes book → (split : Split) (masks : List ℕ) → SplitFrom book split masks → (why : Reason)
      → why ≡ reason_in (has_size_by press masks split.joins split.start r.size.rows r.size.cols) left split.start r.size.rows r.size.cols
      → Answers (why_not press book sheet entries) (told_why (Ok why)) left
  told-reason bytes split masks from why found =
      rw called.is (record { answers = refl; reasons = (rw asks.size at found) ∙ reason-found split masks from bytes; leaves = holds })
