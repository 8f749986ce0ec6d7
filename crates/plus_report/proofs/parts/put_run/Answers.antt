use Rattle.plus_state.specs.View.{problem_of}
use Rattle.plus_report.specs.Labels.{process_label}
use Rattle.plus_report.specs.Shown.{process_numbers}
use Rattle.plus_report.specs.Text.{labels_text, run_text}
use Rattle.plus_report.proofs.PutsLemmas.{both, stop, early}
use Rattle.plus_report.proofs.parts.put_run.Goals as goal

pub returns-in_err-put : goal.returns-in_err-put
unfolding run_text
returns-in_err-put g c = let h = c.from_residual.ensures.0 in early _ (early (labels_text (process_label (problem_of g.Q.Exact.value c.args.ground.now)) (process_numbers c.args.members.now)) (stop c.in_err-put.ensures h) h) h

pub returns-in_err-put_processes : goal.returns-in_err-put_processes
unfolding run_text
returns-in_err-put_processes g c = let h = c.from_residual-in_err-put_processes.ensures.0 in early _ (both c.in_ok-put.ensures (stop c.in_err-put_processes.ensures h)) h

pub returns : goal.returns
unfolding run_text
returns g c = both (both c.in_ok-put.ensures c.in_ok-put_processes.ensures) c.put-2.ensures
