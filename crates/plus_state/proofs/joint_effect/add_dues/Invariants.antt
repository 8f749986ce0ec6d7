use Rattle.std.proofs.Common.{map, drop}
use Rattle.plus_state.specs.View.{effect_of}
use Rattle.plus_state.specs.Stops.{due_of}
use Rattle.plus_state.proofs.AddLemmas.{Adding}
use Rattle.plus_state.proofs.joint_effect.add_dues.Given as goal

abbrev pub invariant-each : goal.invariant-each
invariant-each g l =
    Adding g.Q.Exact.fits (map (due_of g.Q.Exact.value) l.due.items) (map (effect_of g.Q.Exact.value) (drop l.effect-index l.effects)) (map (due_of g.Q.Exact.value) l.initial.due.items) (map (effect_of g.Q.Exact.value) l.effects) l.state
