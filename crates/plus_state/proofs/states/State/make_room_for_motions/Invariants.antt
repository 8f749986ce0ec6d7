use Rattle.std.proofs.Common.{◌≡◌, ◌-◌, length, map}
use Rattle.std.specs.Prelude.{option_map}
use Rattle.plus_state.specs.Motions.{laid}
use Rattle.plus_state.proofs.states.State.make_room_for_motions.Given as goal

abbrev pub invariant-loop-self : goal.invariant-loop-self
invariant-loop-self g l = record {
  truths : l.self-inside.truths ≡ l.initial.self-inside.truths;
  values : l.self-inside.values.items ≡ l.initial.self-inside.values.items;
  same : laid (map (option_map g.Q.Exact.value) l.initial.self-inside.values.items) l.self-inside.motions.items ≡ laid (map (option_map g.Q.Exact.value) l.initial.self-inside.values.items) l.initial.self-inside.motions.items;
}

abbrev pub decreases-loop-self : goal.decreases-loop-self
decreases-loop-self g l = length l.self-inside.values.items - length l.self-inside.motions.items
