-- The spelling is put where the writer stands.
use mathlib.Core.Path.{◌∙◌}
use Rattle.names.specs.Number.{spell_number}
use Rattle.drafts.proofs.InARow.{wrote_there}
use Rattle.drafts.proofs.writer.Writer.number.Goals as goal

pub returns : goal.returns
returns c =
    let on = c.go_on.ensures in
    let put = c.write_number-next.ensures in
    wrote_there c.args.self.now c.go_on.new.self (spell_number c.args.v) c.write_number-next.result (put.0, (λ i. (on.slice i).now) ∙ put.1) (λ i. (on.slice i).ghost_name) on.written (λ e. rw c.spelled_len.ensures at (on.counted e))
