use Rattle.plus_report.proofs.PutsLemmas.{both, stop, early}
use Rattle.plus_watch_lines.specs.Lines.{operation_at}
use Rattle.plus_watch_lines.proofs.limit.put_operation.Goals as goal

pub returns-in_err-put_fraction : goal.returns-in_err-put_fraction
unfolding operation_at
returns-in_err-put_fraction g c = let h = c.from_residual.ensures.0 in early _ (stop c.in_err-put_fraction.ensures h) h

pub returns-in_err-put : goal.returns-in_err-put
unfolding operation_at
returns-in_err-put g c =
    let h = c.from_residual-in_err-put.ensures.0 in
    both c.in_ok-put_fraction.ensures (early _ (rw c.sign_of.ensures at (stop c.in_err-put.ensures h)) h)

pub returns : goal.returns
unfolding operation_at
returns g c = both c.in_ok-put_fraction.ensures (both (rw c.sign_of.ensures at c.in_ok-put.ensures) c.put_fraction-2.ensures)
