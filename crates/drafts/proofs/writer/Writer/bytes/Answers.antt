-- The bytes are put where the writer stands.
use mathlib.Core.Path.{◌∙◌}
use Rattle.drafts.proofs.InARow.{wrote_there}
use Rattle.drafts.proofs.writer.Writer.bytes.Goals as goal

pub returns : goal.returns
returns c =
    let on = c.go_on.ensures in
    let put = c.copy-next.ensures in
    wrote_there c.args.self.now c.go_on.new.self (c.args.bytes.now) c.copy-next.result (put.0, (λ i. (on.slice i).now) ∙ put.1) (λ i. (on.slice i).ghost_name) on.written on.counted
