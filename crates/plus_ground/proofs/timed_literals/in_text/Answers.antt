use Rattle.plus_types.specs.Faults.{problem_context}
use Rattle.plus_state.specs.View.{timed_of}
use Rattle.plus_expansion.specs.Literals.{init_literals}
use Rattle.plus_expansion.specs.Expansion.{timed_by}
use Rattle.plus_ground.proofs.EffectsLemmas.{part_fits}
use Rattle.plus_ground.proofs.TimedLemmas.{added_more}
use Rattle.plus_ground.proofs.timed_literals.in_text.Goals as goal

pub add-requires : goal.add-requires
add-requires g c = part_fits g.Q.Exact.fits init_literals c.args.inits.now c.members.member-index c.member-item.result c.members-test.true c.member-item.is c.requires

pub members-preserved : goal.members-preserved
members-preserved g c =
    added_more (timed_of g.Q.Exact.value) (timed_by (problem_context c.args.numbering.now.typed.now.domain c.args.numbering.now.typed.now.problem)) _ _ c.args.inits.now
    c.members.member-index c.member-item.result c.members-test.true c.member-item.is c.members.invariant c.in_ok-add.ensures
