use Rattle.std.proofs.Common.{◌∙◌, ap}
use Rattle.plus_types.specs.Faults.{problem_context}
use Rattle.plus_expansion.specs.Expansion.{instances_of, process_meant, event_meant}
use Rattle.plus_ground.proofs.CallsLemmas.{processes_fit, events_fit}
use Rattle.plus_ground.proofs.parts.ground_rules.Goals as goal

pub processes-requires : goal.processes-requires
processes-requires g c =
    rw (c.as_slice.ensures, c.domain-domain.ensures) (processes_fit g.Q.Exact.fits c.args.numbering.now.typed.now.domain c.args.numbering.now.typed.now.problem c.requires.literals)

pub events-requires : goal.events-requires
events-requires g c =
    rw (c.as_slice-2.ensures, c.domain-domain.ensures) (events_fit g.Q.Exact.fits c.args.numbering.now.typed.now.domain c.args.numbering.now.typed.now.problem c.requires.literals)

pub returns-clause-processes : goal.returns-clause-processes
returns-clause-processes g c =
    let k = problem_context c.args.numbering.now.typed.now.domain c.args.numbering.now.typed.now.problem in
    c.in_ok-processes.ensures ∙ ap (instances_of k (process_meant k)) (c.as_slice.ensures ∙ ap (λ x. x.processes) c.domain-domain.ensures)

pub returns-clause-events : goal.returns-clause-events
returns-clause-events g c =
    let k = problem_context c.args.numbering.now.typed.now.domain c.args.numbering.now.typed.now.problem in
    c.in_ok-events.ensures ∙ ap (instances_of k (event_meant k)) (c.as_slice-2.ensures ∙ ap (λ x. x.events) c.domain-domain.ensures)
