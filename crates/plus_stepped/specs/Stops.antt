-- Stops of the layers below, as stops of a call.
use Rattle.plus_state.specs.declared.outcome.JointStop.{JointStop}
use Rattle.plus_state.specs.declared.outcome.JointStop.TheVariants as joint
use Rattle.plus_cascade.specs.declared.rounds.CascadeStop.{CascadeStop}
use Rattle.plus_cascade.specs.declared.rounds.CascadeStop.TheVariants as cascade
use Rattle.plus_crossing.specs.declared.moves.MoveStop.{MoveStop}
use Rattle.plus_crossing.specs.declared.moves.MoveStop.TheVariants as move
use Rattle.plus_settle.specs.declared.stops.RateStop.{RateStop}
use Rattle.plus_settle.specs.declared.stops.RateStop.TheVariants as rate
use Rattle.plus_stepped.specs.declared.stop.StepStop.{StepStop}
use Rattle.plus_stepped.specs.declared.stop.StepStop.TheVariants.{Repeats, Conflict, NoValue, Number, Memory}

abbrev pub of_joint : {Q : Type 0} → JointStop Q → StepStop Q
of_joint (joint.Conflict f) = Conflict f
of_joint (joint.NoValue f) = NoValue f
of_joint (joint.Number o) = Number o
of_joint joint.Memory = Memory

abbrev pub of_cascade : {Q : Type 0} → CascadeStop Q → StepStop Q
of_cascade (cascade.Repeats e) = Repeats e
of_cascade (cascade.Conflict f) = Conflict f
of_cascade (cascade.NoValue f) = NoValue f
of_cascade (cascade.Number o) = Number o
of_cascade cascade.Memory = Memory

abbrev pub of_rate_stop : {Q : Type 0} → RateStop Q → StepStop Q
of_rate_stop (rate.NoValue f) = NoValue f
of_rate_stop (rate.Number o) = Number o
of_rate_stop rate.Memory = Memory

abbrev pub of_move : {Q : Type 0} → MoveStop Q → StepStop Q
of_move (move.Number o) = Number o
of_move move.Memory = Memory
