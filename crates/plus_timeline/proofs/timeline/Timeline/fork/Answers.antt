use Rattle.std.proofs.Common.{ap, ◌∙◌}
use Rattle.plus_timeline.specs.Timeline.{event_numbers}
use Rattle.plus_timeline.proofs.Forking.{keeps_forked}
use Rattle.plus_timeline.proofs.timeline.Timeline.fork.Goals as goal

pub invariant_of-result : goal.invariant_of-result
invariant_of-result g c =
    keeps_forked c.self.inside.states c.in_ok-states.states c.self.inside.cascade c.in_ok-cascade.cascade _ _ _ _ _ c.self.invariant c.in_ok-states.ensures c.in_ok-cascade.ensures.cascade
    (ap event_numbers (c.in_ok-cascade.ensures.fired ∙ c.deref.ensures.value))
