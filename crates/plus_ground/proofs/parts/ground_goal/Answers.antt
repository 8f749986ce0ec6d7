use Rattle.std.proofs.Common.{◌∙◌, ap, [], true}
use Rattle.plus_types.specs.Faults.{problem_context}
use Rattle.plus_expansion.specs.Expansion.{condition_meant}
use Rattle.plus_ground.proofs.CallsLemmas.{goal_fits}
use Rattle.plus_ground.proofs.parts.ground_goal.Goals as goal

pub condition-requires : goal.condition-requires
condition-requires g c =
    rw c.problem-problem.ensures (goal_fits g.Q.Exact.fits c.args.numbering.now.typed.now.domain c.args.numbering.now.typed.now.problem c.requires.literals)

pub returns : goal.returns
returns g c =
    let k = problem_context c.args.numbering.now.typed.now.domain c.args.numbering.now.typed.now.problem in
    c.in_ok-goal.ensures ∙ ap (λ e. condition_meant k e true c.problem-problem.result.now.goal) c.new-none.ensures ∙ ap (λ x. condition_meant k [] true x.goal) c.problem-problem.ensures
