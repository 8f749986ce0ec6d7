use Rattle.std.proofs.Common.{◌∙◌, sym, subst}
use Rattle.plus_model.specs.Terms.{State}
use Rattle.plus_number.specs.Frac.{fraction_of}
use Rattle.plus_state.specs.Changes.{RisesIn}
use Rattle.plus_state.specs.View.{problem_of, labels_of}
use Rattle.plus_validator.proofs.Shown.{rises_on_arrival, moment_line, moment_plain, moment_literals, where_written}
use Rattle.plus_validator.proofs.reporting.write_moment.Goals as goal

pub write_entry_changes-requires-clause-changes : goal.write_entry_changes-requires-clause-changes
write_entry_changes-requires-clause-changes c = subst (λ (s : State). RisesIn s c.changes.result.now) (sym c.before-2.ensures.state) c.changes.ensures.rises

pub write_literals_changes-requires-clause-changes : goal.write_literals_changes-requires-clause-changes
write_literals_changes-requires-clause-changes c =
    rises_on_arrival c.args.timeline.now.line _ _ c.before-2.result.now c.arrival.result.now c.changes-then-has_literals.result.now c.before-2.ensures.state c.before-2.ensures.fits c.arrival.ensures.fits c.changes-then-has_literals.ensures

pub returns-then-has_literals : goal.returns-then-has_literals
returns-then-has_literals c =
    let N = labels_of c.args.ground.now in
    let P = problem_of fraction_of c.args.ground.now in
    let t = c.args.timeline.now.line in
    where_written c.write_literals_changes.result _ _ _
    (λ w. moment_literals N P t c.args.time c.arrival.result.now c.changes-then-has_literals.result.now c.args.report.now.bytes.items c.write_entry_changes.new.out.bytes.items c.write_literals_changes.new.out.bytes.items
    c.requires.shown c.changes-then-has_literals.ensures c.arrival.ensures.state (sym c.has_literals.ensures ∙ c.if-has_literals.true)
    (moment_line N t (fraction_of c.args.time) c.before-2.result.now c.changes.result.now c.args.report.now.bytes.items c.write_entry_changes.new.out.bytes.items
    c.requires.shown c.changes.ensures c.before-2.ensures.state c.in_ok-write_entry_changes.ensures.outcome)
    w)
    c.write_literals_changes.ensures.outcome

pub returns : goal.returns
returns c =
    let N = labels_of c.args.ground.now in
    let P = problem_of fraction_of c.args.ground.now in
    let t = c.args.timeline.now.line in
    moment_plain N P t c.args.time c.args.report.now.bytes.items c.write_entry_changes.new.out.bytes.items (sym c.has_literals.ensures ∙ c.if-has_literals.false)
    (moment_line N t (fraction_of c.args.time) c.before-2.result.now c.changes.result.now c.args.report.now.bytes.items c.write_entry_changes.new.out.bytes.items
    c.requires.shown c.changes.ensures c.before-2.ensures.state c.in_ok-write_entry_changes.ensures.outcome)
