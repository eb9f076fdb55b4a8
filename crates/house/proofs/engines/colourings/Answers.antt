-- The count stays within 65,536 at each turn.
use Rattle.std.proofs.Common.{rules, arith, ◌≤◌}
use Rattle.std.proofs.lemmas.Fn.{chained_keeps}
use Rattle.house.proofs.engines.colourings.Goals as goal

pub returns : goal.returns
returns c =
    let (xs, last, drains, folds) = c.fold.ensures.ran in
    chained_keeps _ (λ ys p. p.1 ≤ 65536) (λ ys q x v j k. search rules) xs _ _ (omega arith) folds
