use Rattle.plus_report.proofs.PutsLemmas.{wrote, cut}
use Rattle.plus_report.proofs.verdicts.write_verdict.Goals as goal

pub returns-in_err-put_verdict : goal.returns-in_err-put_verdict
returns-in_err-put_verdict g c = cut c.new-waiting.ensures c.in_err-put_verdict.ensures c.from_residual.ensures.0

pub returns : goal.returns
returns g c = wrote c.new-waiting.ensures c.in_ok-put_verdict.ensures c.flush.ensures.puts c.flush.ensures.empty
