-- What the call answers about a row of nodes, for a sheet of a press: 21 where there is no such press, before all else; the book's fault, then the sheet's,
-- then 16, which blames no input.
use Rattle.std.specs.Prelude.{ℕ, List}
use Rattle.books.specs.Answer.{blaming}
use Rattle.books.specs.Lent.{lent_both}
use Rattle.books.specs.declared.answer.Answer.{Answer}
use Rattle.trees.specs.declared.node.Node.{Node}
use Rattle.trees.specs.Judge.{checked}

unfoldable pub tree_answer : ℕ → List ℕ → List ℕ → List Node → Answer
tree_answer press book sheet nodes = lent_both press book sheet (λ a. a) (λ b p. blaming 0 (checked b p nodes))
