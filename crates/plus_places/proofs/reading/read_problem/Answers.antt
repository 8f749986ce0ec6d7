use Rattle.plus_places.proofs.Problems.{reading_placed}
use Rattle.plus_places.proofs.reading.read_problem.Goals as goal

pub returns-clause-placed : goal.returns-clause-placed
returns-clause-placed c = reading_placed c.args.text.now c.read_problem.result c.read_problem.ensures.exact
