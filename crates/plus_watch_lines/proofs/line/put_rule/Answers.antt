use Rattle.plus_report.proofs.PutsLemmas.{both, stop, early}
use Rattle.plus_watch_lines.specs.Lines.{rule_text}
use Rattle.plus_watch_lines.proofs.line.put_rule.Goals as goal

pub returns-in_err-put_numbered : goal.returns-in_err-put_numbered
unfolding rule_text
returns-in_err-put_numbered g c = let h = c.from_residual.ensures.0 in early _ (stop c.in_err-put_numbered.ensures h) h

pub returns : goal.returns
unfolding rule_text
returns g c = both c.in_ok-put_numbered.ensures (rw c.name_of.ensures at c.put.ensures)
