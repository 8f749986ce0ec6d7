use Rattle.plus_report.proofs.ReportLemmas.{report_of-grown}
use Rattle.plus_report.proofs.laws.report_stays.Goals as goal

pub returns : goal.returns
returns c = report_of-grown
