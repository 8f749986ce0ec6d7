use Rattle.std.proofs.Common.{◌++◌, ap, ◌∙◌}
use Rattle.plus_number.specs.Frac.{fraction_of}
use Rattle.plus_state.specs.View.{problem_of, labels_of}
use Rattle.plus_timeline.specs.declared.next.Next.TheVariants.{Entry}
use Rattle.plus_validator.specs.Standing.{next_text}
use Rattle.plus_validator.proofs.Closing.{report_begins}
use Rattle.plus_validator.proofs.Steps.{begun_shown}
use Rattle.plus_validator.proofs.reporting.ReportTeller.begin.Goals as goal

pub write_next-requires-clause-shown : goal.write_next-requires-clause-shown
write_next-requires-clause-shown c = begun_shown (problem_of fraction_of c.args.ground.now) c.requires.begun.0 c.args.timeline.now.line c.requires.begun.1

pub returns-in-Ok-clause-tells : goal.returns-in-Ok-clause-tells
returns-in-Ok-clause-tells c =
    let N = labels_of c.args.ground.now in
    let P = problem_of fraction_of c.args.ground.now in
    report_begins N P c.requires.begun.0 c.time.result c.args.timeline.now.line c.write_next.new.report.bytes.items c.requires.begun.1 c.time.ensures
    (c.in-Ok.ensures ∙ ap (λ x. x ++ next_text fraction_of N P c.args.timeline.now.line (Entry c.time.result)) c.requires.new)
