use Rattle.std.proofs.Common.{◌++◌, ap, sym, ◌∙◌, append_assoc}
use Rattle.plus_number.specs.Frac.{fraction_of}
use Rattle.plus_state.specs.View.{problem_of, labels_of}
use Rattle.plus_validator.specs.Standing.{next_text}
use Rattle.plus_validator.proofs.Steps.{report_next, step_shown}
use Rattle.plus_validator.proofs.reporting.ReportTeller.step.Goals as goal

pub write_next-requires-clause-shown : goal.write_next-requires-clause-shown
write_next-requires-clause-shown c =
    let s = c.requires.step in
    step_shown fraction_of (problem_of fraction_of c.args.ground.now) s.until s.old c.args.timeline.now.line c.args.next s.does

pub returns-in-Ok-clause-tells : goal.returns-in-Ok-clause-tells
returns-in-Ok-clause-tells c = λ sent.
    let N = labels_of c.args.ground.now in
    let P = problem_of fraction_of c.args.ground.now in
    let old = c.args.self.now.bytes.items in
    let new = c.write_next.new.report.bytes.items in
    λ from u serves a.
    report_next fraction_of N P u from c.args.timeline.now.line c.args.next (sent ++ old) (sent ++ new) a
    (ap (λ x. sent ++ x) c.in-Ok.ensures ∙ sym (append_assoc sent old (next_text fraction_of N P c.args.timeline.now.line c.args.next)))
