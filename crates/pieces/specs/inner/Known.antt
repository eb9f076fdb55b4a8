-- What a tree is written by.
use Rattle.pieces.specs.View.{View}
use Rattle.pieces.specs.declared.choice.Chooser.{Chooser}
use Rattle.pieces.specs.inner.Seen.{has_bit, has_colour}

-- the bits of the table and the colours of the cells
abbrev pub view_of : Chooser → View
view_of c = record { has = has_bit c.table.size c.table.entries.now; paints = has_colour c.cells.size c.cells.colours.now }
