-- Two pictures joined across or down.
use Rattle.std.specs.Prelude.{◌+◌, ◌-◌, ◌≡◌, ltb}
use Rattle.names.specs.Pick.{pick}
use Rattle.books.specs.Picture.{Picture, Same, size, first, rest}
use Rattle.books.specs.declared.rule.Dir.{Dir}
use Rattle.books.specs.declared.rule.Dir.TheVariants.{Across as across, Down as down}

-- r is p joined with q: p stands first, and q is the rest
pub record Joined (d : Dir) (p q r : Picture) : Type 0 where
  pub sizes : size d p + size d q ≡ size d r
  pub front : Same p (first d (size d p) r)
  pub back : Same q (rest d (size d p) r)

-- the other direction
abbrev pub other : Dir → Dir
other across = down
other down = across

-- the join as a picture: q stands right of p, or below it
abbrev pub glued : Dir → Picture → Picture → Picture
glued across p q =
    record {
      rows = p.rows;
      cols = p.cols + q.cols;
      cell = λ i j. pick (ltb j p.cols) (p.cell i j) (q.cell i (j - p.cols));
    }
glued down p q =
    record {
      rows = p.rows + q.rows;
      cols = p.cols;
      cell = λ i j. pick (ltb i p.rows) (p.cell i j) (q.cell (i - p.rows) j);
    }
