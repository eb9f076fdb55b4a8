-- The four ways in which the call ends: what holds of each holds of every call.
use Prim.Native.Nat.{ℕ, ◌≤◌, ◌<◌}
use mathlib.Core.List.{List}
use borrow.Author.Tests.{ltb-true, ltb-false}
use lib.Dec.{ltb}
use Rattle.names.proofs.Picking.{pick_ind}
use Rattle.books.specs.Answer.{plain}
use Rattle.books.specs.Contents.{Contents}
use Rattle.books.specs.Decide.{derives?}
use Rattle.books.specs.Derives.{Member}
use Rattle.books.specs.Lent.{contents_of, picture_of, Accepted}
use Rattle.books.specs.Picture.{Picture}
use Rattle.books.specs.declared.answer.Answer.{Answer}
use Rattle.books.proofs.Deciding.{decided, refused as not-derived}
use Rattle.books.proofs.LentEnds.{Refusal, both_end}
use Rattle.plain.specs.Outcome.{most_cells, cells, searched, plain_answer}

module _ (press : ℕ) (book sheet : List ℕ) where
  abbrev b : Contents
  b = contents_of book

  abbrev p : Picture
  p = picture_of press sheet

  pub record Cases (P : Answer → Type 0) : Type 0 where
    pub refused : (a : Answer) → Refusal press book sheet a → P a
    pub too_many : Accepted press book sheet → most_cells < cells p → P (plain 20)
    pub declined : Accepted press book sheet → cells p ≤ most_cells → (Member b p → ⊥) → P (plain 11)
    pub derived : Accepted press book sheet → cells p ≤ most_cells → Member b p → P (plain 0)

  module _ (P : Answer → Type 0) (cases : Cases P) where
    by-searching : Accepted press book sheet → P (searched b p)
    unfolding searched
    by-searching fine =
        pick_ind P (ltb most_cells (cells p)) _ _
        (λ e. cases.too_many fine (ltb-true _ _ e))
        (λ e. let few = ltb-false most_cells (cells p) e in
        pick_ind P (derives? b b.start p) _ _
        (λ d. cases.derived fine few ((decided b b.start p).0 d))
        (λ d. cases.declined fine few ((not-derived b b.start p).0 d)))

    pub plain-ends : P (plain_answer press book sheet)
    unfolding plain_answer
    plain-ends =
        both_end P (λ a. a) press book sheet searched
        cases.refused by-searching
