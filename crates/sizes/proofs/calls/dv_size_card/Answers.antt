-- The answer and the number of sizes are packed as they are.
use Rattle.sizes.proofs.calls.dv_size_card.Goals as goal

pub returns : goal.returns
returns c =
    record {
      answers = rw (← c.size_card-r.ensures.answers, ← c.size_card-r.ensures.counts) c.pack.ensures;
      leaves = c.size_card-r.ensures.leaves;
    }
