use Rattle.std.proofs.Common.{ap, map, ◌∙◌}
use Rattle.std.specs.Prelude.{option_map}
use Rattle.plus_state.specs.Motions.{laid}
use Rattle.plus_state.proofs.MotionLemmas.{laid_room}
use Rattle.plus_state.proofs.states.State.make_room_for_motions.Goals as goal

pub loop-self-preserved : goal.loop-self-preserved
loop-self-preserved g c = record {
  truths = c.loop-self.invariant.truths;
  values = c.loop-self.invariant.values;
  same = ap (laid (map (option_map g.Q.Exact.value) c.self.inside.values.items)) c.in_ok-push.ensures.items ∙ laid_room _ c.loop-self.self-inside.motions.items ∙ c.loop-self.invariant.same;
}
