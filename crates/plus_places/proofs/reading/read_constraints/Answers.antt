use Rattle.plus_places.proofs.Constraints.{reading_placed}
use Rattle.plus_places.proofs.reading.read_constraints.Goals as goal

pub returns-clause-placed : goal.returns-clause-placed
returns-clause-placed c = reading_placed c.args.text.now c.read_constraints.result (λ v. v.items) c.read_constraints.ensures.exact
