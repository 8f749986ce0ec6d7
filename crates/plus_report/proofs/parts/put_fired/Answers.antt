use Rattle.plus_state.specs.View.{problem_of}
use Rattle.plus_report.specs.Labels.{event_label}
use Rattle.plus_report.specs.Shown.{event_numbers}
use Rattle.plus_report.specs.Text.{labels_text}
use Rattle.plus_report.proofs.PutsLemmas.{both, stop, early}
use Rattle.plus_report.proofs.parts.put_fired.Goals as goal

pub returns-in_err-put : goal.returns-in_err-put
returns-in_err-put g c = let h = c.from_residual.ensures.0 in early _ (early (labels_text (event_label (problem_of g.Q.Exact.value c.args.ground.now)) (event_numbers c.args.events.now)) (stop c.in_err-put.ensures h) h) h

pub returns-in_err-put_events : goal.returns-in_err-put_events
returns-in_err-put_events g c = let h = c.from_residual-in_err-put_events.ensures.0 in early _ (both c.in_ok-put.ensures (stop c.in_err-put_events.ensures h)) h

pub returns : goal.returns
returns g c = both (both c.in_ok-put.ensures c.in_ok-put_events.ensures) c.put-2.ensures
