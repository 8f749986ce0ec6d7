use Rattle.plus_tokens.specs.Ahead.{is_name}
use Rattle.plus_tokens.proofs.Taken.{placed_order, placed_inside}
use Rattle.plus_tokens.proofs.stream.place_at.Goals as goal

pub returns-clause-order : goal.returns-clause-order
returns-clause-order c = placed_order is_name c.args.text.now c.args.at _ c.name_ahead.ensures

pub returns-clause-inside : goal.returns-clause-inside
returns-clause-inside c = placed_inside is_name c.args.text.now c.args.at _ c.requires c.name_ahead.ensures
