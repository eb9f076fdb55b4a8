-- The sheets that the code's numbers have room for.
use Rattle.std.specs.Prelude.{ℕ}
use Rattle.books.specs.Press.{widest}

-- the most rows, and the most columns: those of the widest press
abbrev pub most : ℕ
most = widest
