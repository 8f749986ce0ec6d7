use Rattle.plus_report.proofs.PutsLemmas.{wrote, cut}
use Rattle.plus_watch_lines.proofs.limit.write_limit.Goals as goal

pub returns-in_err-put_limit : goal.returns-in_err-put_limit
returns-in_err-put_limit g c = cut c.new-waiting.ensures c.in_err-put_limit.ensures c.from_residual.ensures.0

pub returns : goal.returns
returns g c = wrote c.new-waiting.ensures c.in_ok-put_limit.ensures c.flush.ensures.puts c.flush.ensures.empty
