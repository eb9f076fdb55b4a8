-- The parts of a piece are smaller: each has fewer rows and columns in all, so that a search of the pieces of a sheet ends, and a smaller area, where the piece has cells.
use Prim.Native.Nat.{ℕ, ◌+◌, ◌≤◌, ◌<◌}
use mathlib.Core.List.{List}
use native.Mathlib.Nat.{mul-lt-mul_of_pos_left, mul-lt-mul_of_pos_right}
use native.Mathlib.Omega.{arith}
use Rattle.names.proofs.Tests.{and_both}
use Rattle.books.specs.Search.{Lessens}
use Rattle.books.specs.declared.rule.Dir.{Dir}
use Rattle.books.specs.declared.rule.Dir.TheVariants.{Across as across, Down as down}
use Rattle.books.specs.declared.size.Size.{Size}
use Rattle.pieces.specs.Area.{area}
use Rattle.pieces.specs.OnSheet.{lies_on, covers_on, on_sheet}
use Rattle.pieces.specs.Parts.{reach, first_part, rest_part}
use Rattle.pieces.specs.Pieces.{Inside}
use Rattle.pieces.specs.declared.piece.Piece.{Piece}
use Rattle.pieces.proofs.PiecesOnSheets.{lies-told}

-- ── Rows and columns in all ──

abbrev pub bulk : Piece → ℕ
bulk q = q.height + q.width

first_less : (d : Dir) (k : ℕ) (q : Piece) → 1 ≤ k → k < reach d q → bulk (first_part d k q) < bulk q
first_less across k q h l = omega arith
first_less down k q h l = omega arith

rest_less : (d : Dir) (k : ℕ) (q : Piece) → 1 ≤ k → k < reach d q → bulk (rest_part d k q) < bulk q
rest_less across k q h l = omega arith
rest_less down k q h l = omega arith

pub pieces-lessen : (s : Size) (cells : List ℕ) → Lessens (on_sheet s cells) bulk
unfolding covers_on
pieces-lessen s cells =
    record {
      tested = λ c q. (λ e. e, λ e. e);
      first_less = first_less;
      rest_less = rest_less;
      cell_some = λ c q e. let (on, _) = and_both (lies_on s q) _ e in omega (arith, (lies-told s q on).1.tall);
    }

-- ── Cells ──

module _ {m n : ℕ} {q : Piece} (i : Inside m n q) where
  pub first-smaller : (d : Dir) (k : ℕ) → k < reach d q → area (first_part d k q) < area q
  first-smaller across k h = mul-lt-mul_of_pos_left h i.tall
  first-smaller down k h = mul-lt-mul_of_pos_right h i.wide

  pub rest-smaller : (d : Dir) (k : ℕ) → 1 ≤ k → k < reach d q → area (rest_part d k q) < area q
  rest-smaller across k h l = mul-lt-mul_of_pos_left (omega arith) i.tall
  rest-smaller down k h l = mul-lt-mul_of_pos_right (omega arith) i.wide
