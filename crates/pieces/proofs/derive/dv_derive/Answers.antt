-- The derivation's answer and its trials, packed.
use mathlib.Core.Path.{ap, ◌∙◌}
use Rattle.books.specs.Answer.{packed}
use Rattle.pieces.specs.declared.derive.Derived.{Derived}
use Rattle.pieces.proofs.derive.dv_derive.Goals as goal

pub returns : goal.returns
returns c =
    let left = c.derive-d.ensures in
    record { answers = c.pack.ensures ∙ ap (λ (d : Derived). packed d.answer d.trials) left.answers; leaves_work = left.leaves_work; leaves_tree = left.leaves_tree }
