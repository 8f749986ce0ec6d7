use Rattle.std.proofs.Common.{rules, of_calls}
use Rattle.std.proofs.lemmas.Fn.{always_returns_same}
use Rattle.plus_timeline.specs.Literals.{is_before}
use Rattle.plus_timeline.proofs.InOrder.{before_parted}
use Rattle.plus_timeline.proofs.literals.first_from.Goals as goal

pub returns-clause-point : goal.returns-clause-point
returns-clause-point g c =
    c.partition_point.ensures.partitioned (is_before g.Q.Exact.value (g.Q.Exact.value c.args.time)) (always_returns_same _ _ _ (λ a r f k. search (rules, of_calls)))
    (before_parted g.Q.Exact.value _ _ c.args.literals.now c.requires)
