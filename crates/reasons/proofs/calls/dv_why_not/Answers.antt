-- The answer and the reason are packed as they are.
use mathlib.Core.Path.{ap, ap₂, ◌∙◌}
use Rattle.books.specs.Answer.{packed}
use Rattle.reasons.specs.Reason.{packed_reason}
use Rattle.reasons.proofs.Apart.{why_not-packs}
use Rattle.reasons.proofs.calls.dv_why_not.Goals as goal

pub count-requires : goal.count-requires
count-requires c = rw c.why_not-r.ensures.reasons (why_not-packs _ _ _ _).fits

pub returns : goal.returns
returns c =
    record {
      answers = c.pack.ensures ∙ ap₂ packed c.why_not-r.ensures.answers (c.count.ensures ∙ ap packed_reason c.why_not-r.ensures.reasons);
      leaves = c.why_not-r.ensures.leaves;
    }
