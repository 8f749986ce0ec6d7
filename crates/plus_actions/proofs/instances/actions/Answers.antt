use Rattle.plus_expansion.specs.Literals.{schema_literals}
use Rattle.plus_ground.proofs.EffectsLemmas.{part_fits}
use Rattle.plus_actions.proofs.instances.actions.Goals as goal

pub actions_of-requires : goal.actions_of-requires
actions_of-requires g c = part_fits g.Q.Exact.fits schema_literals c.args.schemas.now c.schemas.schema-index c.schema-item.result c.schemas-test.true c.schema-item.is c.requires
