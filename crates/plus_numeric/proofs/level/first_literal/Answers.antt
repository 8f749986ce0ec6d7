use Rattle.plus_numeric.proofs.LevelLemmas.{literal_first}
use Rattle.plus_numeric.proofs.level.first_literal.Goals as goal

pub returns-in-Some : goal.returns-in-Some
returns-in-Some c = literal_first c.args.inits.now c.init-item.result c.in-Some.place c.inits.init-index c.inits.invariant c.inits-test.true c.init-item.is c.in-Some.ensures
