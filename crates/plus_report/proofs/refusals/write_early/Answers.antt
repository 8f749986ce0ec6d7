use Rattle.plus_report.proofs.PutsLemmas.{wrote, cut}
use Rattle.plus_report.proofs.refusals.write_early.Goals as goal

pub returns-in_err-put_early : goal.returns-in_err-put_early
returns-in_err-put_early g c = cut c.new-waiting.ensures c.in_err-put_early.ensures c.from_residual.ensures.0

pub returns : goal.returns
returns g c = wrote c.new-waiting.ensures c.in_ok-put_early.ensures c.flush.ensures.puts c.flush.ensures.empty
