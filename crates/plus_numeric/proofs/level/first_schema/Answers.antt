use Rattle.plus_numeric.proofs.LevelLemmas.{first_place}
use Rattle.plus_numeric.proofs.level.first_schema.Goals as goal

pub returns-in-len1-up : goal.returns-in-len1-up
returns-in-len1-up c = first_place c.args.schemas.now c.first-item.result c.in-len1-up.len_at_least c.first-item.is
