use Rattle.plus_places.proofs.Domains.{reading_placed}
use Rattle.plus_places.proofs.reading.read_domain.Goals as goal

pub returns-clause-placed : goal.returns-clause-placed
returns-clause-placed c = reading_placed c.args.text.now c.read_domain.result c.read_domain.ensures.exact
