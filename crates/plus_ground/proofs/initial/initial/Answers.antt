use Rattle.plus_types.specs.Faults.{problem_context}
use Rattle.plus_expansion.specs.Literals.{init_literals}
use Rattle.plus_ground.proofs.EffectsLemmas.{part_fits}
use Rattle.plus_ground.proofs.InitialLemmas.{initial_start, initial_more}
use Rattle.plus_ground.proofs.initial.initial.Goals as goal

pub members-init : goal.members-init
members-init g c =
    initial_start (problem_context c.args.numbering.now.typed.now.domain c.args.numbering.now.typed.now.problem) c.args.inits.now _ _ _
    c.in_ok-state.ensures c.atoms.ensures.count c.fluents.ensures.count

pub enter-requires : goal.enter-requires
enter-requires g c = part_fits g.Q.Exact.fits init_literals c.args.inits.now c.members.member-index c.member-item.result c.members-test.true c.member-item.is c.requires

pub members-preserved : goal.members-preserved
members-preserved g c =
    initial_more (problem_context c.args.numbering.now.typed.now.domain c.args.numbering.now.typed.now.problem) c.args.inits.now c.members.member-index c.member-item.result _ _
    c.members-test.true c.member-item.is c.members.invariant c.in_ok-enter.ensures
