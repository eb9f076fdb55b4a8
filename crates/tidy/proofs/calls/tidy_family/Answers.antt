-- The start is tested first; where it can be rewritten, what is left with the reached motifs is written.
use mathlib.Core.Path.{refl, sym, ◌∙◌}
use Rattle.tidy.proofs.Calling.{start-rewrites, start-refused}
use Rattle.tidy.proofs.calls.tidy_family.Goals as goal

pub returns-then-is_marked : goal.returns-then-is_marked
returns-then-is_marked c =
    rw (start-rewrites c.args.book.now c.args.untidy.family.now c.rewritten-can.ensures _ (sym c.is_marked.ensures ∙ c.if-is_marked.true) c.reached-marks.ensures)
    c.write_left.ensures

pub returns-else-is_marked : goal.returns-else-is_marked
returns-else-is_marked c =
    rw (start-refused c.args.book.now c.args.untidy.family.now c.rewritten-can.ensures _ (sym c.is_marked.ensures ∙ c.if-is_marked.false))
    (record { answers = simp c.answer.ensures at c.pack.ensures; leaves = refl })
