-- The copies have parts that fit a byte, as the raised rules have.
use mathlib.Core.Path.{subst, sym}
use native.Mathlib.Omega.{arith}
use Rattle.books.specs.RuleNumbers.{AllFit}
use Rattle.families.proofs.Fitting.{fit-copies}
use Rattle.families.proofs.asked.Pairing.second_adds.Goals as goal

pub missing_from-requires : goal.missing_from-requires
missing_from-requires c =
    record {
      others_fit = c.requires.copied_fit;
      rules_fit = subst AllFit (sym c.copies.ensures) (fit-copies _ _ _ _ _ (omega arith) c.requires.raised_fit);
    }
