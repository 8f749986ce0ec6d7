use Rattle.plus_timeline.proofs.LiteralLemmas.{in_turn}
use Rattle.plus_timeline.proofs.literals.run_of.Goals as goal

pub returns-clause-turn : goal.returns-clause-turn
returns-clause-turn g c = in_turn g.Q.Exact.value _ c.args.literals.now _ _ c.first_from_near-first.ensures.point c.first_after_near.ensures.point c.first_from_near-first.ensures.inside
