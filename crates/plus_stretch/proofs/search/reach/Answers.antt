use Rattle.plus_state.specs.View.{problem_of}
use Rattle.plus_stretch.proofs.AllListed.{all_known_along}
use Rattle.plus_stretch.proofs.search.reach.Goals as goal

pub reach_in-requires-clause-known : goal.reach_in-requires-clause-known
reach_in-requires-clause-known g c = all_known_along _ (problem_of g.Q.Exact.value c.args.ground.now) _ _ _ _ c.all.ensures c.all-2.ensures
