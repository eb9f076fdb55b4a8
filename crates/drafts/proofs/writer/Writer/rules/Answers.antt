-- So many rules are written.
use native.Mathlib.Omega.{arith}
use Rattle.drafts.proofs.InARow.{rules-turn, wrote_nothing, wrote-next}
use Rattle.drafts.proofs.writer.Writer.rules.Goals as goal

pub loop-rule-init : goal.loop-rule-init
loop-rule-init c = wrote_nothing c.args.self.now

pub loop-rule-preserved : goal.loop-rule-preserved
loop-rule-preserved c =
    let l = c.loop-rule in
    wrote-next rules-turn c.args.rules.now l.rule-index _ (omega arith) (omega arith) l.invariant c.rule.ensures
