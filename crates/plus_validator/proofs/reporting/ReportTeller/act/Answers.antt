use Rattle.std.proofs.Common.{◌++◌, ap, sym, subst, ◌∙◌, append_assoc}
use Rattle.plus_model.specs.Terms.{State}
use Rattle.plus_number.specs.Frac.{fraction_of}
use Rattle.plus_state.specs.Changes.{patched, RisesIn}
use Rattle.plus_state.specs.View.{problem_of, labels_of}
use Rattle.plus_report.specs.Text.{act_text}
use Rattle.plus_validator.proofs.Shown.{act_reported}
use Rattle.plus_validator.proofs.Steps.{report_act}
use Rattle.plus_validator.proofs.reporting.ReportTeller.act.Goals as goal

pub write_act_changes-requires-clause-changes : goal.write_act_changes-requires-clause-changes
write_act_changes-requires-clause-changes c = subst (λ (s : State). RisesIn s c.changes.result.now) (sym c.before-2.ensures.state) c.changes.ensures.rises

pub returns-in-Ok-clause-tells : goal.returns-in-Ok-clause-tells
returns-in-Ok-clause-tells c = λ sent action old label does.
    let N = labels_of c.args.ground.now in
    let P = problem_of fraction_of c.args.ground.now in
    let t = c.args.timeline.now.line in
    let was = c.args.self.now.bytes.items in
    let now = c.write_act_changes.new.out.bytes.items in
    report_act N P action old t (sent ++ was) (sent ++ now) does
    (ap (λ x. sent ++ x) (act_reported was now N c.args.label.now c.before-2.result.now (patched c.before-2.result.now c.changes.result.now)
    t.before t.now.state c.in-Ok.ensures.outcome c.before-2.ensures.state (ap (λ (s : State). patched s c.changes.result.now) c.before-2.ensures.state ∙ sym c.changes.ensures.is))
    ∙ sym (append_assoc sent was (act_text N c.args.label.now t.before t.now.state))
    ∙ ap (λ x. (sent ++ was) ++ act_text N x t.before t.now.state) (sym label))
