use Rattle.std.proofs.Common.{◌∙◌, ap}
use Rattle.plus_types.specs.Faults.{problem_context}
use Rattle.plus_expansion.specs.Expansion.{timed_meant}
use Rattle.plus_ground.proofs.CallsLemmas.{init_fits}
use Rattle.plus_ground.proofs.parts.ground_happenings.Goals as goal

pub timed_literals-requires : goal.timed_literals-requires
timed_literals-requires g c =
    rw (c.as_slice.ensures, c.problem-problem.ensures) (init_fits g.Q.Exact.fits c.args.numbering.now.typed.now.domain c.args.numbering.now.typed.now.problem c.requires.literals)

pub returns-clause-timed : goal.returns-clause-timed
returns-clause-timed g c =
    let k = problem_context c.args.numbering.now.typed.now.domain c.args.numbering.now.typed.now.problem in
    c.in_ok-timed.ensures ∙ ap (timed_meant k) (c.as_slice.ensures ∙ ap (λ x. x.init) c.problem-problem.ensures)
