-- The motifs were read as at most 32, and no list has more than 64 colours.
use mathlib.Core.Path.{sym, ap}
use native.Mathlib.Omega.{arith}
use Rattle.names.specs.ColoursRead.{ColoursRead}
use Rattle.names.proofs.ReadingColours.{colours-places}
use Rattle.names.proofs.ReadingNumbers.{number_in_lem}
use Rattle.books.proofs.book.read_by.Goals as goal

pub invariant_of-counts : goal.invariant_of-counts
invariant_of-counts c =
    record {
      motifs_few = omega (arith, (number_in_lem _ _ _ _ _ _ (sym c.in_ok-motifs.ensures.read)).high);
      colours_few = omega (arith, (colours-places c.args.bytes.now).few, ap (λ (r : ColoursRead). r.colours.count) c.in_ok-colours.ensures);
    }
