use Rattle.std.proofs.Common.{sym, subst}
use Rattle.plus_model.specs.Terms.{State}
use Rattle.plus_number.specs.Frac.{fraction_of}
use Rattle.plus_state.specs.Changes.{RisesIn}
use Rattle.plus_state.specs.View.{problem_of}
use Rattle.plus_validator.proofs.Shown.{events_shown, running_shown}
use Rattle.plus_validator.proofs.reporting.write_next.Goals as goal

pub write_round_changes-requires-clause-events : goal.write_round_changes-requires-clause-events
write_round_changes-requires-clause-events c = events_shown (problem_of fraction_of c.args.ground.now) c.args.timeline.now.line c.args.next c.events.result.now c.in-Round.is c.requires.shown c.events.ensures

pub write_round_changes-requires-clause-changes : goal.write_round_changes-requires-clause-changes
write_round_changes-requires-clause-changes c = subst (λ (s : State). RisesIn s c.changes.result.now) (sym c.before-in-Round.ensures.state) c.changes.ensures.rises

pub write_run-requires : goal.write_run-requires
write_run-requires c = running_shown (problem_of fraction_of c.args.ground.now) c.args.timeline.now.line c.args.next c.running.result.now c.in-Run.is c.requires.shown c.running.ensures
