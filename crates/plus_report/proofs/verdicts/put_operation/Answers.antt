use Rattle.plus_report.specs.Verdicts.{operation_text}
use Rattle.plus_report.proofs.PutsLemmas.{both, stop, early}
use Rattle.plus_report.proofs.verdicts.put_operation.Goals as goal

pub returns-in_err-put_fraction : goal.returns-in_err-put_fraction
unfolding operation_text
returns-in_err-put_fraction g c = let h = c.from_residual.ensures.0 in early _ (early _ (stop c.in_err-put_fraction.ensures h) h) h

pub returns-in_err-put : goal.returns-in_err-put
unfolding operation_text
returns-in_err-put g c = let h = c.from_residual-in_err-put.ensures.0 in early _ (both c.in_ok-put_fraction.ensures (rw c.sign_of.ensures at (stop c.in_err-put.ensures h))) h

pub returns : goal.returns
unfolding operation_text
returns g c = both (both c.in_ok-put_fraction.ensures (rw c.sign_of.ensures at c.in_ok-put.ensures)) c.put_fraction_end.ensures
