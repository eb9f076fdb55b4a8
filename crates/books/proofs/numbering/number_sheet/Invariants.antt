-- At each turn of the loop the first i colours of the sheet have their numbers in the book, and it has no more than 64.
use Prim.Native.Nat.{◌≤◌}
use Rattle.names.specs.Colours.{list_of}
use Rattle.names.specs.Spelling.{most_colours}
use Rattle.books.specs.inner.Key.{Key}
use Rattle.books.proofs.numbering.number_sheet.Given as goal

abbrev pub invariant-loop-i : goal.invariant-loop-i
invariant-loop-i l = record {
  key : Key l.book (list_of l.count l.starts l.lens) l.sheet (list_of l.g.colours l.own_starts l.own_lens) l.i l.key;
  few : l.g.colours ≤ most_colours;
}
