use Rattle.plus_report.proofs.PutsLemmas.{wrote, cut}
use Rattle.plus_watch_lines.proofs.found.write_lines.Goals as goal

pub returns-in_err-put_lines : goal.returns-in_err-put_lines
returns-in_err-put_lines g c = cut c.new-waiting.ensures c.in_err-put_lines.ensures c.from_residual.ensures.0

pub returns : goal.returns
returns g c = wrote c.new-waiting.ensures c.in_ok-put_lines.ensures c.flush.ensures.puts c.flush.ensures.empty
