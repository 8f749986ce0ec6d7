use Rattle.plus_report.proofs.PutsLemmas.{both, stop, early}
use Rattle.plus_watch_lines.specs.Lines.{rule_line}
use Rattle.plus_watch_lines.proofs.line.put_line.Goals as goal

pub returns-in_err-put_rule : goal.returns-in_err-put_rule
unfolding rule_line
returns-in_err-put_rule g c = let h = c.from_residual.ensures.0 in early _ (stop c.in_err-put_rule.ensures h) h

pub returns : goal.returns
unfolding rule_line
returns g c = both c.in_ok-put_rule.ensures c.put_found.ensures
