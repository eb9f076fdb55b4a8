-- What the code holds a row of nodes to, and what the row comes to by it.
use Rattle.std.specs.Prelude.{ℕ, ◌≡◌, List, Result, Ok, Err, leb, length, take}
use Rattle.names.specs.Pick.{pick}
use Rattle.books.specs.Answer.{answer, plain}
use Rattle.books.specs.declared.answer.Answer.{Answer}
use Rattle.books.specs.declared.rule.Rule.{Rule}
use Rattle.pieces.specs.Area.{whole}
use Rattle.pieces.specs.declared.part.Part.{Part}
use Rattle.trees.specs.declared.held.Held.{Held}
use Rattle.trees.specs.declared.node.Node.{Node}
use Rattle.trees.specs.Outcome.{tree_answer}
use Rattle.trees.specs.inner.OnSheets.{judged_at}

-- the rules that stand
abbrev pub rules_of : Held → List Rule
rules_of o = take o.family.count o.family.rules

-- the whole sheet, for the start motif
abbrev pub sheet_of : Held → Part
sheet_of o = record { piece = whole o.size.rows o.size.cols; motif = o.family.start }

abbrev pub judged_held : Held → List Node → Result ℕ ℕ
judged_held o ns = judged_at o.size o.cells (rules_of o) (sheet_of o) ns 0

-- 16 at the node that fails, or at the number of nodes read where some of so many are left over; else 0
abbrev pub ended16 : Result ℕ ℕ → ℕ → Answer
ended16 (Ok e) count = pick (leb count e) (plain 0) (answer 16 0 e)
ended16 (Err e) count = answer 16 0 e

-- what a row comes to
unfoldable pub held_answer : Held → List Node → Answer
held_answer o ns = ended16 (judged_held o ns) (length ns)

-- what was read answers for any row
pub record Tells (press : ℕ) (book sheet : List ℕ) (o : Held) : Type 0 where
  pub told : (ns : List Node) → held_answer o ns ≡ tree_answer press book sheet ns

-- an answer that refuses the press, the book or the sheet is that of any row
pub record Refused (press : ℕ) (book sheet : List ℕ) (a : Answer) : Type 0 where
  pub told : (ns : List Node) → a ≡ tree_answer press book sheet ns
