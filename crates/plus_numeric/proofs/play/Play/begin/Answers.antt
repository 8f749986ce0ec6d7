use Rattle.std.proofs.Common.{◌≡◌, [], ap, ◌∙◌}
use Rattle.plus_model.specs.Terms.{Problem}
use Rattle.plus_number.specs.Frac.{fraction_of}
use Rattle.plus_state.specs.View.{event_of, process_of, timed_of}
use Rattle.plus_numeric.proofs.LevelLemmas.{nil_map, no_processes, no_events, no_literals}
use Rattle.plus_numeric.proofs.play.Play.begin.Goals as goal

pub begin-requires-clause-processes : goal.begin-requires-clause-processes
begin-requires-clause-processes c =
    nil_map (process_of fraction_of) c.args.ground.now.processes.items
    (ap (λ (P : Problem). P.processes) c.requires.expands ∙ no_processes c.args.numbering.now.typed.now.domain c.args.numbering.now.typed.now.problem c.requires.level_two)

pub begin-requires-clause-events : goal.begin-requires-clause-events
begin-requires-clause-events c =
    nil_map (event_of fraction_of) c.args.ground.now.events.items
    (ap (λ (P : Problem). P.events) c.requires.expands ∙ no_events c.args.numbering.now.typed.now.domain c.args.numbering.now.typed.now.problem c.requires.level_two)

pub begin-requires-clause-timed : goal.begin-requires-clause-timed
begin-requires-clause-timed c =
    nil_map (timed_of fraction_of) c.args.ground.now.timed.items
    (ap (λ (P : Problem). P.timed) c.requires.expands ∙ no_literals c.args.numbering.now.typed.now.domain c.args.numbering.now.typed.now.problem c.requires.level_two)
