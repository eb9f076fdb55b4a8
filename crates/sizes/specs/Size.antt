-- Sizes: so many rows and columns, and how they come apart across and down. A size has no colours.
use Rattle.std.specs.Prelude.{ℕ, ◌-◌}
use Rattle.books.specs.Size.{size_by as by}
use Rattle.books.specs.declared.size.Size.{Size}
use Rattle.books.specs.declared.rule.Dir.TheVariants.{Across as across, Down as down}
use Rattle.books.specs.declared.rule.Dir.{Dir}

-- how far a size reaches in a direction: its columns, or its rows
abbrev pub reach : Dir → Size → ℕ
reach across s = s.cols
reach down s = s.rows

-- the first k columns, or rows, ...
abbrev pub first_part : Dir → ℕ → Size → Size
first_part across k s = by s.rows k
first_part down k s = by k s.cols

-- ... and the rest
abbrev pub rest_part : Dir → ℕ → Size → Size
rest_part across k s = by s.rows (s.cols - k)
rest_part down k s = by (s.rows - k) s.cols
