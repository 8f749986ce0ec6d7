use Rattle.plus_literal.specs.Value.{LiteralFits}
use Rattle.plus_expansion.specs.Literals.{condition_literals, effect_literals}
use Rattle.plus_ground.proofs.ExpressionsLemmas.{all_left, all_right}
use Rattle.plus_ground.proofs.schemas.action.Goals as goal

pub condition-requires : goal.condition-requires
condition-requires g c = all_left (LiteralFits g.Q.Exact.fits) (condition_literals c.args.schema.now.condition) (effect_literals c.args.schema.now.effect) c.requires

pub writes-requires : goal.writes-requires
writes-requires g c = all_right (LiteralFits g.Q.Exact.fits) (condition_literals c.args.schema.now.condition) (effect_literals c.args.schema.now.effect) c.requires
