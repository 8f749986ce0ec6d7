use Rattle.plus_report.proofs.PutsLemmas.{wrote, cut}
use Rattle.plus_report.proofs.parts.write_run.Goals as goal

pub returns-in_err-put_run : goal.returns-in_err-put_run
returns-in_err-put_run g c = cut c.new-waiting.ensures c.in_err-put_run.ensures c.from_residual.ensures.0

pub returns : goal.returns
returns g c = wrote c.new-waiting.ensures c.in_ok-put_run.ensures c.flush.ensures.puts c.flush.ensures.empty
