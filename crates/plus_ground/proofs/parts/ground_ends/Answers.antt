use Rattle.std.proofs.Common.{◌∙◌, ap}
use Rattle.plus_types.specs.Faults.{problem_context}
use Rattle.plus_expansion.specs.Expansion.{initial_state}
use Rattle.plus_ground.proofs.CallsLemmas.{init_fits}
use Rattle.plus_ground.proofs.parts.ground_ends.Goals as goal

pub initial-requires : goal.initial-requires
initial-requires g c =
    rw (c.as_slice.ensures, c.problem-problem.ensures) (init_fits g.Q.Exact.fits c.args.numbering.now.typed.now.domain c.args.numbering.now.typed.now.problem c.requires.literals)

pub returns-clause-initial : goal.returns-clause-initial
returns-clause-initial g c =
    let k = problem_context c.args.numbering.now.typed.now.domain c.args.numbering.now.typed.now.problem in
    c.in_ok-initial.ensures ∙ ap (initial_state k) (c.as_slice.ensures ∙ ap (λ x. x.init) c.problem-problem.ensures)
