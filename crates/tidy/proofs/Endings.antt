-- A call ends in one of four ways: the book is refused, its start cannot be rewritten, the slice is too short, or the tidied book is written. What holds of each way
-- holds of the call. The marks decide whether the start can be rewritten.
use Prim.Native.Nat.{ℕ, ◌≤◌, ◌<◌}
use mathlib.Core.Path.{◌≡◌, ap}
use mathlib.Core.Bool.{false}
use mathlib.Core.List.{List}
use lib.ListN.{length}
use Rattle.names.proofs.Picking.{pick_ind}
use Rattle.names.specs.Bytes.{Bytes}
use Rattle.names.specs.Fault.{Fault}
use Rattle.books.specs.Answer.{plain}
use Rattle.books.specs.Book.{untidy_of, IsUntidy}
use Rattle.books.specs.Contents.{Contents}
use Rattle.books.specs.Keeps.{KeepsBy}
use Rattle.books.specs.Lent.{contents_by}
use Rattle.books.specs.SpellBook.{spell_book}
use Rattle.books.proofs.ReadingBooks.{book-accepted-by}
use Rattle.drafts.specs.Outcome.{Outcome, refused, spelled, written}
use Rattle.drafts.proofs.Outcomes.{blamed_by, written-ends, lent-ends}
use Rattle.tidy.specs.Kept.{Rewrites}
use Rattle.tidy.specs.Marking.{rewrites?}
use Rattle.tidy.specs.Outcome.{tidied_out, tidying}
use Rattle.tidy.specs.Tidied.{tidied}
use Rattle.tidy.proofs.Rewriting.{rewrites-decided, rewrites-refused}

-- a lent book that is read keeps the rules, but that equal ones may stand in it
pub untidy-keeps : (s : List ℕ) → Bytes s → IsUntidy s → KeepsBy false (contents_by false s)
untidy-keeps s bytes fine = (book-accepted-by false s bytes (ap (λ (f : Fault). f.number) fine)).keeps

-- the start of a book can be rewritten to colours with sizes forgotten
abbrev pub StartRewrites : Contents → Type 0
StartRewrites b = Rewrites b b.start

module _ (P : Outcome → Type 0) (book out : List ℕ) where
  -- the bytes of the tidied book
  abbrev neat : List ℕ
  neat = spell_book (tidied (contents_by false book))

  pub record Ways : Type 0 where
    pub in_book : ((untidy_of book).fault.number ≡ 0 → ⊥) → P (blamed_by false 1 book out)
    pub no_start : IsUntidy book → (StartRewrites (contents_by false book) → ⊥) → P (refused (plain 17) out)
    pub no_room : IsUntidy book → StartRewrites (contents_by false book) → length out < length neat → P (refused (plain 13) out)
    pub with_room : IsUntidy book → StartRewrites (contents_by false book) → length neat ≤ length out → P (spelled (tidied (contents_by false book)) out)

  module _ (bytes : Bytes book) (ways : Ways) where
    starts : IsUntidy book → P (tidied_out (contents_by false book) out)
    unfolding tidied_out
    starts fine =
        let b = contents_by false book in
        let sound = (untidy-keeps book bytes fine).sound in
        pick_ind P (rewrites? b b.start) (written (tidied b) out) (refused (plain 17) out)
        (λ e. let some = (rewrites-decided b sound b.start).0 e in written-ends P out (tidied b) (ways.with_room fine some) (ways.no_room fine some))
        (λ e. ways.no_start fine ((rewrites-refused b sound b.start).0 e))

    pub ends : P (tidying book out)
    unfolding tidying
    ends = lent-ends P out false 1 book (λ (b : Contents). tidied_out b out) starts ways.in_book
