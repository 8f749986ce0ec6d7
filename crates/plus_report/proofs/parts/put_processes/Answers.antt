use Rattle.std.proofs.Common.{codes, ◌++◌, ap, arith}
use Rattle.plus_state.specs.View.{problem_of}
use Rattle.plus_state.specs.declared.term.ProcessId.{ProcessId}
use Rattle.plus_report.specs.Labels.{process_label}
use Rattle.plus_report.specs.Text.{labels_text}
use Rattle.plus_report.proofs.PutsLemmas.{stop}
use Rattle.plus_report.proofs.LineLemmas.{no_text, next_text, last_text, all_texts}
use Rattle.std.proofs.lemmas.List.{get_or_default}
use Rattle.plus_report.proofs.parts.put_processes.Goals as goal

pub loop-process-init : goal.loop-process-init
unfolding labels_text
loop-process-init g c = no_text (λ k. codes " " ++ process_label (problem_of g.Q.Exact.value c.args.ground.now) k) (λ (e : ProcessId). e.0) c.args.members.now

pub returns-in_err-put_spaced : goal.returns-in_err-put_spaced
unfolding labels_text
returns-in_err-put_spaced g c =
    let h = c.from_residual.ensures.0 in
    last_text (λ k. codes " " ++ process_label (problem_of g.Q.Exact.value c.args.ground.now) k) (λ (e : ProcessId). e.0) c.args.members.now c.loop-process.process-index _
    c.loop-process.invariant (stop c.in_err-put_spaced.ensures h) (ap (λ t. codes " " ++ t) c.process_label_of.ensures) (omega arith) (get_or_default c.args.members.now c.loop-process.process-index _ _ (omega arith)) h

pub loop-process-preserved : goal.loop-process-preserved
unfolding labels_text
loop-process-preserved g c =
    next_text (λ k. codes " " ++ process_label (problem_of g.Q.Exact.value c.args.ground.now) k) (λ (e : ProcessId). e.0) c.args.members.now c.loop-process.process-index _
    c.loop-process.invariant c.in_ok-put_spaced.ensures (ap (λ t. codes " " ++ t) c.process_label_of.ensures) (omega arith) (get_or_default c.args.members.now c.loop-process.process-index _ _ (omega arith))

pub returns : goal.returns
unfolding labels_text
returns g c =
    all_texts (λ k. codes " " ++ process_label (problem_of g.Q.Exact.value c.args.ground.now) k) (λ (e : ProcessId). e.0) c.args.members.now c.loop-process.process-index
    c.loop-process.invariant (omega arith)
