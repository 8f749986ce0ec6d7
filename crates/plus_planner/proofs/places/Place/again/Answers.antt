use Rattle.plus_planner.proofs.TriedLemmas.{stands_there}
use Rattle.plus_planner.proofs.places.Place.again.Goals as goal

pub returns-clause-returns : goal.returns-clause-returns
returns-clause-returns g c = record {
  tried = c.remove-tried.result;
  stands = stands_there c.args.self.now.tried.items c.args.index c.remove-tried.result c.requires c.remove-tried.ensures.value;
  taken_is = c.in_ok-push.ensures.items;
  others = c.remove-tried.ensures.by_index.2;
}
