-- Reading what is left from here, with the names read so far, is reading the whole list; places stay near the start, so that they fit their arrays.
use Prim.Native.Nat.{◌+◌, ◌-◌, ◌*◌, ◌≤◌}
use mathlib.Core.Path.{◌≡◌}
use Rattle.names.specs.Colours.{list_of, colours_from, colours_of}
use Rattle.names.proofs.ReadingColours.{colour_span}
use Rattle.names.proofs.colours.read_names.Given as goal

abbrev pub invariant-loop-i : goal.invariant-loop-i
invariant-loop-i l = record {
  counted : l.i ≤ l.count;
  rest : colours_from l.s (list_of l.i l.starts l.lens) l.reader.at (l.count - l.i) ≡ colours_of l.s;
  same : l.reader.bytes.now ≡ l.s;
  near : l.reader.at ≤ 3 + colour_span * l.i;
}

abbrev pub decreases-loop-i : goal.decreases-loop-i
decreases-loop-i l = l.count - l.i
