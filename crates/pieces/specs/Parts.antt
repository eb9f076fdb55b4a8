-- The two parts of a piece that a cut makes, across or down.
use Rattle.std.specs.Prelude.{ℕ, ◌+◌, ◌-◌}
use Rattle.books.specs.declared.rule.Dir.TheVariants.{Across as across, Down as down}
use Rattle.books.specs.declared.rule.Dir.{Dir}
use Rattle.pieces.specs.Pieces.{piece}
use Rattle.pieces.specs.declared.piece.Piece.{Piece}

-- how far a piece reaches in a direction: its columns, or its rows
abbrev pub reach : Dir → Piece → ℕ
reach across p = p.width
reach down p = p.height

-- its first k columns, or rows, ...
abbrev pub first_part : Dir → ℕ → Piece → Piece
first_part across k p = piece p.height k p.top p.left
first_part down k p = piece k p.width p.top p.left

-- ... and the rest
abbrev pub rest_part : Dir → ℕ → Piece → Piece
rest_part across k p = piece p.height (p.width - k) p.top (p.left + k)
rest_part down k p = piece (p.height - k) p.width (p.top + k) p.left
