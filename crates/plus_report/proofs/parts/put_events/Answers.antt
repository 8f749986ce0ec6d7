use Rattle.std.proofs.Common.{codes, ◌++◌, ap, arith}
use Rattle.plus_state.specs.View.{problem_of}
use Rattle.plus_state.specs.declared.term.EventId.{EventId}
use Rattle.plus_report.specs.Labels.{event_label}
use Rattle.plus_report.specs.Text.{labels_text}
use Rattle.plus_report.proofs.PutsLemmas.{stop}
use Rattle.plus_report.proofs.LineLemmas.{no_text, next_text, last_text, all_texts}
use Rattle.std.proofs.lemmas.List.{get_or_default}
use Rattle.plus_report.proofs.parts.put_events.Goals as goal

pub loop-event-init : goal.loop-event-init
unfolding labels_text
loop-event-init g c = no_text (λ k. codes " " ++ event_label (problem_of g.Q.Exact.value c.args.ground.now) k) (λ (e : EventId). e.0) c.args.events.now

pub returns-in_err-put_spaced : goal.returns-in_err-put_spaced
unfolding labels_text
returns-in_err-put_spaced g c =
    let h = c.from_residual.ensures.0 in
    last_text (λ k. codes " " ++ event_label (problem_of g.Q.Exact.value c.args.ground.now) k) (λ (e : EventId). e.0) c.args.events.now c.loop-event.event-index _
    c.loop-event.invariant (stop c.in_err-put_spaced.ensures h) (ap (λ t. codes " " ++ t) c.event_label_of.ensures) (omega arith) (get_or_default c.args.events.now c.loop-event.event-index _ _ (omega arith)) h

pub loop-event-preserved : goal.loop-event-preserved
unfolding labels_text
loop-event-preserved g c =
    next_text (λ k. codes " " ++ event_label (problem_of g.Q.Exact.value c.args.ground.now) k) (λ (e : EventId). e.0) c.args.events.now c.loop-event.event-index _
    c.loop-event.invariant c.in_ok-put_spaced.ensures (ap (λ t. codes " " ++ t) c.event_label_of.ensures) (omega arith) (get_or_default c.args.events.now c.loop-event.event-index _ _ (omega arith))

pub returns : goal.returns
unfolding labels_text
returns g c =
    all_texts (λ k. codes " " ++ event_label (problem_of g.Q.Exact.value c.args.ground.now) k) (λ (e : EventId). e.0) c.args.events.now c.loop-event.event-index
    c.loop-event.invariant (omega arith)
