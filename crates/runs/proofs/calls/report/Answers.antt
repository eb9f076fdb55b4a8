-- The figures are named as they stand in the row.
use Rattle.runs.proofs.ReportingRuns.{answers-report}
use Rattle.runs.proofs.calls.report.Goals as goal

pub returns : goal.returns
returns c = answers-report _ _ _ _ _ _ _ _ _ c.report_into-answer.ensures c.named-figures.ensures
