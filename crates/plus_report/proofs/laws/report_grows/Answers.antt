use Rattle.plus_report.proofs.ReportLemmas.{report_of-append}
use Rattle.plus_report.proofs.laws.report_grows.Goals as goal

pub returns : goal.returns
returns c = report_of-append
