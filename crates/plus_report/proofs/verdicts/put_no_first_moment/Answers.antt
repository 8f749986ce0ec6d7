use Rattle.plus_report.specs.Verdicts.{breach_text}
use Rattle.plus_report.proofs.PutsLemmas.{both, stop, early}
use Rattle.plus_report.proofs.verdicts.put_no_first_moment.Goals as goal

pub returns-in_err-put_three : goal.returns-in_err-put_three
unfolding breach_text
returns-in_err-put_three g c = let h = c.from_residual.ensures.0 in early _ (rw c.event_label_of.ensures at (stop c.in_err-put_three.ensures h)) h

pub returns : goal.returns
unfolding breach_text
returns g c = both (rw c.event_label_of.ensures at c.in_ok-put_three.ensures) c.put_fraction_end.ensures
