-- The four ways in which the call ends: what holds of each holds of every call.
use Prim.Native.Nat.{ℕ, ◌≤◌, ◌<◌}
use mathlib.Core.List.{List}
use borrow.Author.Tests.{ltb-true, ltb-false}
use lib.Dec.{ltb}
use lib.ListN.{length}
use Rattle.names.proofs.Picking.{pick_ind}
use Rattle.books.specs.Contents.{Contents}
use Rattle.books.specs.Picture.{Picture}
use Rattle.books.specs.Derives.{Member}
use Rattle.books.specs.Decide.{derives?}
use Rattle.books.specs.Answer.{plain}
use Rattle.books.specs.declared.answer.Answer.{Answer}
use Rattle.books.proofs.Deciding.{decided, refused as not-derived}
use Rattle.books.proofs.LentEnds.{Refusal, both_end}
use Rattle.books.proofs.ReadingSheets.{sheet-lies}
use Rattle.pieces.specs.Derivation.{entries_needed, filled}
use Rattle.books.specs.Lent.{contents_of, picture_of, Accepted}
use Rattle.reasons.specs.Holds.{First}
use Rattle.reasons.specs.Why.{Outcome, refused, reason_of, judged, roomed, why_not}
use Rattle.reasons.proofs.FirstReason.{reason-first}

module _ (press : ℕ) (book sheet entries : List ℕ) where
  abbrev b : Contents
  b = contents_of book

  abbrev p : Picture
  p = picture_of press sheet

  pub record Cases (P : Outcome → Type 0) : Type 0 where
    pub refusing : (a : Answer) → Refusal press book sheet a → P (refused a entries)
    pub short_work : Accepted press book sheet → length entries < entries_needed p → P (refused (plain 9) entries)
    pub in_family : Accepted press book sheet → entries_needed p ≤ length entries → Member b p → P (refused (plain 15) (filled b p entries))
    pub explained : Accepted press book sheet → entries_needed p ≤ length entries → (Member b p → ⊥) → First b p (reason_of b p)
        → P (record { answer = plain 0; reason = reason_of b p; entries = filled b p entries })

  module _ (P : Outcome → Type 0) (cases : Cases P) where
    by-judging : Accepted press book sheet → entries_needed p ≤ length entries → P (judged b p entries)
    unfolding judged
    by-judging fine room =
        let s = (sheet-lies press sheet fine.sheet_fine).within in
        pick_ind P (derives? b b.start p) _ _
        (λ e. cases.in_family fine room ((decided b b.start p).0 e))
        (λ e. let other = (not-derived b b.start p).0 e in cases.explained fine room other (reason-first b p s.rows_some s.cols_some other))

    by-room : Accepted press book sheet → P (roomed b p entries)
    unfolding roomed
    by-room fine =
        pick_ind P (ltb (length entries) (entries_needed p)) _ _
        (λ e. cases.short_work fine (ltb-true (length entries) (entries_needed p) e))
        (λ e. by-judging fine (ltb-false (length entries) (entries_needed p) e))

    pub why_not-ends : P (why_not press book sheet entries)
    unfolding why_not
    why_not-ends =
        both_end P (λ a. refused a entries) press book sheet (λ b p. roomed b p entries)
        cases.refusing by-room
