-- The five ways in which a derivation ends: what holds of each holds of every derivation.
use Prim.Native.Nat.{ℕ, ◌≤◌, ◌<◌}
use mathlib.Core.List.{List, ◌++◌}
use borrow.Author.Tests.{ltb-true, ltb-false}
use lib.Dec.{ltb}
use lib.ListN.{length, drop}
use Rattle.names.proofs.Picking.{pick_ind}
use Rattle.books.specs.Contents.{Contents}
use Rattle.books.specs.Picture.{Picture}
use Rattle.books.specs.Lent.{contents_of, picture_of, Accepted}
use Rattle.books.specs.Derives.{Member}
use Rattle.books.specs.Decide.{derives?}
use Rattle.books.specs.Answer.{plain}
use Rattle.books.specs.declared.answer.Answer.{Answer}
use Rattle.books.proofs.Deciding.{decided, refused}
use Rattle.books.proofs.LentEnds.{Refusal, both_end}
use Rattle.pieces.specs.Given.{Given}
use Rattle.pieces.specs.Tree.{tree}
use Rattle.pieces.specs.Derivation.{Derivation, leaving, entries_needed, numbers_needed, trials_needed, Roomy, filled, judged, roomed, derivation}
use Rattle.pieces.proofs.TheTree.{tree-given}

module _ (press : ℕ) (book sheet entries numbers : List ℕ) where
  abbrev b : Contents
  b = contents_of book

  abbrev p : Picture
  p = picture_of press sheet

  pub record Cases (P : Derivation → Type 0) : Type 0 where
    pub refused : (a : Answer) → Refusal press book sheet a → P (leaving a entries numbers)
    pub short_work : Accepted press book sheet → length entries < entries_needed p → P (leaving (plain 9) entries numbers)
    pub short_tree : Accepted press book sheet → entries_needed p ≤ length entries → length numbers < numbers_needed p → P (leaving (plain 10) entries numbers)
    pub declined : Accepted press book sheet → Roomy p entries numbers → (Member b p → ⊥)
        → P (record { answer = plain 11; trials = trials_needed b p; entries = filled b p entries; numbers = numbers })
    pub derived : Accepted press book sheet → Roomy p entries numbers → Member b p → (nodes : List ℕ) → Given b b.start p nodes
        → P (record { answer = plain 0; trials = trials_needed b p; entries = filled b p entries; numbers = nodes ++ drop (length nodes) numbers })

  module _ (P : Derivation → Type 0) (cases : Cases P) where
    by-judging : Accepted press book sheet → Roomy p entries numbers → P (judged b p (filled b p entries) numbers)
    unfolding judged
    by-judging fine room =
        pick_ind P (derives? b b.start p) _ _
        (λ e. let x = (decided b b.start p).0 e in cases.derived fine room x (tree b p) (tree-given b p x))
        (λ e. cases.declined fine room ((refused b b.start p).0 e))

    by-room : Accepted press book sheet → P (roomed b p entries numbers)
    unfolding roomed
    by-room fine =
        pick_ind P (ltb (length entries) (entries_needed p)) _ _
        (λ e. cases.short_work fine (ltb-true _ _ e))
        (λ e. let work = ltb-false (length entries) (entries_needed p) e in
        pick_ind P (ltb (length numbers) (numbers_needed p)) _ _
        (λ f. cases.short_tree fine work (ltb-true _ _ f))
        (λ f. by-judging fine (record { work_long = work; tree_long = ltb-false (length numbers) (numbers_needed p) f })))

    pub derivation-ends : P (derivation press book sheet entries numbers)
    unfolding derivation
    derivation-ends =
        both_end P (λ a. leaving a entries numbers) press book sheet (λ b p. roomed b p entries numbers)
        cases.refused by-room
