-- The four ways in which the call ends: what holds of each holds of every call.
use Prim.Native.Nat.{ℕ}
use mathlib.Core.Path.{◌≡◌, refl, ap, ◌∙◌}
use mathlib.Core.List.{List, ◌∷◌, ◌++◌}
use lib.ListN.{length}
use Rattle.names.specs.Fault.{Fault}
use Rattle.books.specs.Answer.{answer, plain, blaming}
use Rattle.books.specs.Contents.{Contents}
use Rattle.books.specs.Lent.{contents_of, picture_of, Accepted}
use Rattle.books.specs.Picture.{Picture}
use Rattle.books.specs.declared.answer.Answer.{Answer}
use Rattle.books.proofs.LentEnds.{Refusal, both_end, both-go-on}
use Rattle.trees.specs.declared.node.Node.{Node}
use Rattle.trees.specs.Trees.{TreeOf, FailsAt, Ends, a_tree, fails, left_over}
use Rattle.trees.specs.Judge.{checked}
use Rattle.trees.specs.Outcome.{tree_answer}
use Rattle.trees.proofs.Theorems.{ends, ends-checked}

module _ (press : ℕ) (book sheet : List ℕ) (nodes : List Node) where
  abbrev b : Contents
  b = contents_of book

  abbrev p : Picture
  p = picture_of press sheet

  pub record Cases (P : Answer → Type 0) : Type 0 where
    pub refused : (a : Answer) → Refusal press book sheet a → P a
    pub failing : Accepted press book sheet → (i : ℕ) → FailsAt b b.start p nodes i → P (answer 16 0 i)
    pub over : Accepted press book sheet → (xs : List Node) (v : Node) (vs : List Node) → nodes ≡ xs ++ (v ∷ vs) → TreeOf b b.start p xs → P (answer 16 0 (length xs))
    pub derived : Accepted press book sheet → TreeOf b b.start p nodes → P (plain 0)

  module _ (P : Answer → Type 0) (cases : Cases P) where
    by_end : Accepted press book sheet → (ns : List Node) (f : Fault) → nodes ≡ ns → Ends b p ns f → P (blaming 0 f)
    by_end fine _ _ e (a_tree t) = cases.derived fine (rw e t)
    by_end fine _ _ e (fails {i = i} x) = cases.failing fine i (rw e x)
    by_end fine _ _ e (left_over {xs} v vs t) = cases.over fine xs v vs e t

    pub tree-ends : P (tree_answer press book sheet nodes)
    unfolding tree_answer
    tree-ends =
        both_end P (λ a. a) press book sheet (λ b p. blaming 0 (checked b p nodes))
        cases.refused (λ fine. by_end fine nodes (checked b p nodes) refl (ends b p nodes))

  -- Where both inputs are accepted, the answer is that of the one way in which the row ends.
  pub answered : Accepted press book sheet → {f : Fault} → Ends b p nodes f → tree_answer press book sheet nodes ≡ blaming 0 f
  unfolding tree_answer
  answered fine x =
      both-go-on press (λ a. a) book sheet (λ b p. blaming 0 (checked b p nodes)) fine ∙ ap (λ (g : Fault). blaming 0 g) (ends-checked b p x)
