use Rattle.plus_report.proofs.PutsLemmas.{both, stop, early}
use Rattle.plus_watch_lines.specs.Lines.{number_text}
use Rattle.plus_watch_lines.proofs.limit.put_number.Goals as goal

pub returns-in_err-put : goal.returns-in_err-put
unfolding number_text
returns-in_err-put g c = let h = c.from_residual.ensures.0 in early _ (stop c.in_err-put.ensures h) h

pub returns-in_err-put_operation : goal.returns-in_err-put_operation
unfolding number_text
returns-in_err-put_operation g c =
    let h = c.from_residual-in_err-put_operation.ensures.0 in both c.in_ok-put.ensures (early _ (stop c.in_err-put_operation.ensures h) h)

pub returns : goal.returns
unfolding number_text
returns g c = both c.in_ok-put.ensures (both c.in_ok-put_operation.ensures c.put_numbered.ensures)
