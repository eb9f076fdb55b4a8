-- The contents of what was read, over the lent bytes.
use Rattle.std.specs.Prelude.{ℕ, ◌*◌, List, take}
use Rattle.names.specs.Colours.{names_in}
use Rattle.books.specs.Contents.{Contents}
use Rattle.books.specs.Grid.{Grid}
use Rattle.books.specs.declared.family.Family.{Family}
use Rattle.books.specs.declared.sheet.Sheet.{Sheet}

abbrev pub contents_in : List ℕ → Family → Contents
contents_in s f = record { colours = names_in s f.colours; motifs = f.motifs; start = f.start; rules = take f.count f.rules }

abbrev pub grid_in : List ℕ → Sheet → Grid
grid_in s g =
    record {
      colours = names_in s g.colours;
      ticket = g.ticket;
      rows = g.size.rows;
      cols = g.size.cols;
      cells = take (g.size.rows * g.size.cols) g.cells;
    }
