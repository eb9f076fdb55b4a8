-- The reason as the code finds it, from a slice that holds the table of a picture.
use Rattle.std.specs.Prelude.{ℕ, ◌*◌, ◌≤◌, Bool, List, Result, Ok, Err, eqb, ltb, get_or, length}
use Rattle.names.specs.Pick.{pick}
use Rattle.books.specs.Answer.{plain}
use Rattle.books.specs.Press.{greatest_of}
use Rattle.books.specs.Size.{Within}
use Rattle.books.specs.declared.answer.Answer.{Answer}
use Rattle.books.specs.declared.size.Size.{Size}
use Rattle.names.specs.Counted.{least}
use Rattle.pieces.specs.Largest.{largest_in}
use Rattle.pieces.specs.Pieces.{total}
use Rattle.reasons.specs.declared.calls.WhyNot.{WhyNot}
use Rattle.reasons.specs.declared.reason.Reason.{Reason}
use Rattle.reasons.specs.declared.reason.Reason.TheVariants.{NoReason, NoSuchSize}
use Rattle.reasons.specs.Why.{cell_reason, piece_reason}

-- no motif derives the piece at a slot
unfoldable pub bare : List ℕ → ℕ → Bool
bare work i = eqb (get_or work i 0) 0

-- what finding a reason asks for: a sheet of a press, with an entry for each of its pieces
pub record PiecesHeld (press : ℕ) (size : Size) (work : List ℕ) : Type 0 where
  pub within : Within (greatest_of press) size.rows size.cols
  pub held : total size.rows size.cols ≤ length work

-- what the code tells: the reason, or an answer with none
abbrev pub told_why : Result Reason Answer → WhyNot
told_why (Ok reason) = record { answer = plain 0; reason = reason }
told_why (Err a) = record { answer = a; reason = NoReason }

-- of a sheet of m rows and n columns: the first bare cell, then that the size card has not its size, then the largest piece
unfoldable pub reason_in : Bool → List ℕ → ℕ → ℕ → ℕ → Reason
reason_in has work start m n =
    pick (ltb (least (bare work) 0 (m * n)) (m * n)) (cell_reason n (least (bare work) 0 (m * n)))
    (pick has (piece_reason (largest_in work start m n)) NoSuchSize)
