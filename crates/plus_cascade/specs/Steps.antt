-- What a round asks, in the order of evaluation (this project's profile): the conditions of all events in ground order.
-- Where no event holds, the cascade is over. Else an event that holds and has fired stops the round, and then come the
-- steps of the joint effect of all events that hold, in ground order.
use Rattle.std.specs.Prelude.{ℕ, Bool, List, [], ◌∷◌, ◌++◌, map, Option, Some, None}
use Rattle.plus_fraction.specs.Fraction.{Fraction}
use Rattle.plus_model.specs.Terms.{Event, State, Problem}
use Rattle.plus_model.specs.Joint.{Fault}
use Rattle.plus_model.specs.Firing.{firing, effects_of}
use Rattle.plus_state.specs.Node.{Node}
use Rattle.plus_state.specs.Tested as tested
use Rattle.plus_state.specs.Asked.{NodeFits}
use Rattle.plus_state.specs.Walk.{all_asked}
use Rattle.plus_state.specs.Steps as joint
use Rattle.plus_state.specs.Steps.{Step, joint_steps}
use Rattle.plus_cascade.specs.Fired.{first_repeated}

-- a step: a node, which stops where its exact result is no value; a fault of the joint effect, or an event that would
-- fire twice, which always stop
pub data RoundStep : Type 0 where
  asks : Node → RoundStep
  fails : Fault → RoundStep
  repeats : ℕ → RoundStep

unfoldable pub Passes : (Fraction → Type 0) → RoundStep → Type 0
Passes fits (asks n) = NodeFits fits n
Passes fits (fails f) = ⊥
Passes fits (repeats e) = ⊥

-- no step stops
abbrev pub AllPass : (Fraction → Type 0) → List RoundStep → Type 0
AllPass fits ns = tested.AllPass (Passes fits) ns

-- the first step that stops
abbrev pub FirstStop : (Fraction → Type 0) → List RoundStep → RoundStep → Type 0
FirstStop fits ns m = tested.FirstFailing (Passes fits) ns m

-- a step of a joint effect
abbrev pub of_step : Step → RoundStep
of_step (joint.asks n) = asks n
of_step (joint.fault f) = fails f

-- what the conditions of these events ask
abbrev pub condition_nodes : List Event → State → List Node
condition_nodes es s = all_asked (map (λ (e : Event). e.condition) es) s

abbrev pub repeat_steps : Option ℕ → List RoundStep
repeat_steps None = []
repeat_steps (Some e) = repeats e ∷ []

-- what is asked where these events hold
unfoldable pub fire_steps : Problem → List Bool → State → List ℕ → List RoundStep
fire_steps P fired s [] = []
fire_steps P fired s (e ∷ es) = repeat_steps (first_repeated fired (e ∷ es)) ++ map of_step (joint_steps (effects_of P (e ∷ es)) s)

unfoldable pub round_steps : Problem → List Bool → State → List RoundStep
round_steps P fired s = map asks (condition_nodes P.events s) ++ fire_steps P fired s (firing P s)
