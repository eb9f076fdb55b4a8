-- A draft that passes the test fits.
use mathlib.Core.Path.{sym, ◌∙◌}
use native.Mathlib.Omega.{arith}
use Rattle.drafts.proofs.SpellingDrafts.{draft-few}
use Rattle.drafts.proofs.writing.write_book.Goals as goal

pub write_whole-requires : goal.write_whole-requires
write_whole-requires c = draft-few c.args.d (sym c.counts_fit.ensures ∙ c.if-counts_fit.true) (omega arith)
