-- How the contents of a sheet are spelled: colours, the ticket, rows, columns, then the cells, row by row.
use Rattle.std.specs.Prelude.{ℕ, List, [], ◌∷◌, ◌++◌}
use Rattle.names.specs.Number.{spell_number}
use Rattle.names.specs.Spelling.{spell_colours}
use Rattle.books.specs.Grid.{Grid}

abbrev pub spell_cells : List ℕ → List ℕ
spell_cells [] = []
spell_cells (v ∷ vs) = spell_number v ++ spell_cells vs

abbrev pub spell_sheet : Grid → List ℕ
spell_sheet g =
    spell_colours g.colours ++ (spell_number g.ticket ++ (spell_number g.rows ++ (spell_number g.cols ++ spell_cells g.cells)))
