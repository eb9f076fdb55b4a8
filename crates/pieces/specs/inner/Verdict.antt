-- What the bits and the colours of a view tell of a sheet, and what two slices lack for it.
use Rattle.std.specs.Prelude.{ℕ, ◌≡◌, Option, Some, None, Result, Ok, Err, List, ◌++◌, ltb, length, drop}
use Rattle.names.specs.Pick.{pick}
use Rattle.books.specs.declared.answer.Answer.{Answer}
use Rattle.books.specs.declared.reply.Reply.{Reply}
use Rattle.books.specs.declared.reply.Reply.TheVariants.{WorkShort, TreeShort}
use Rattle.books.specs.declared.rule.Rule.{Rule}
use Rattle.pieces.specs.declared.piece.Piece.{Piece}
use Rattle.pieces.specs.Pieces.{total}
use Rattle.pieces.specs.Area.{whole, tree_size}
use Rattle.pieces.specs.View.{View}
use Rattle.pieces.specs.Tree.{tree_of}
use Rattle.pieces.specs.Derivation.{telling}
use Rattle.pieces.specs.declared.derive.Derived.{Derived}

-- the answer's number, and what stands in the tree slice
pub record Verdict : Type 0 where
  pub number : ℕ
  pub numbers : List ℕ

-- 11 where the start has no bit at the piece, and else 0 with its tree
unfoldable pub verdict : View → List Rule → ℕ → Piece → List ℕ → Verdict
verdict v rules start q numbers =
    pick (v.has start q)
    (record { number = 0; numbers = tree_of v rules start q ++ drop (length (tree_of v rules start q)) numbers })
    (record { number = 11; numbers = numbers })

-- what is answered of slices for a sheet of m rows and n columns, where one is too short
unfoldable pub lacking : ℕ → ℕ → ℕ → ℕ → Option Reply
lacking m n entries numbers = pick (ltb entries (total m n)) (Some WorkShort) (pick (ltb numbers (tree_size (whole m n))) (Some TreeShort) None)

-- a derivation, or an answer before any trial
abbrev pub told_derived : Result Derived Answer → Derived
told_derived (Ok d) = d
told_derived (Err a) = telling a 0

-- a number that is answered, and the tree slice as it is left, are those of a verdict
pub record Judges (v : Verdict) (r : ℕ) (left : List ℕ) : Type 0 where
  pub answers : r ≡ v.number
  pub leaves : left ≡ v.numbers
