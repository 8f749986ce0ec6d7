use Rattle.plus_report.proofs.PutsLemmas.{both, stop, early}
use Rattle.plus_translate_command.proofs.printer.put.put_both.Goals as goal

pub returns-in_err-put : goal.returns-in_err-put
returns-in_err-put g c = let h = c.from_residual.ensures.0 in early _ (stop c.in_err-put.ensures h) h

pub returns : goal.returns
returns g c = both c.in_ok-put.ensures c.put-2.ensures
