-- What the steps of a joint effect say of the model's joint effect.
use Rattle.std.specs.Prelude.{◌≡◌, ◌++◌, List, Ok, Err}
use Rattle.plus_fraction.specs.Fraction.{Fraction}
use Rattle.plus_model.specs.Terms.{Effect, State}
use Rattle.plus_model.specs.Joint.{Fault, joint}
use Rattle.plus_state.specs.Due.{dues, after_dues}
use Rattle.plus_state.specs.Steps.{fault, AllPass, FirstStop, add_steps, joint_steps}

-- where all steps pass, the joint effect is the state after the writes that are due
abbrev pub JointPasses : (Fraction → Type 0) → Type 0
JointPasses fits = (es : List Effect) (s : State) → AllPass fits (joint_steps es s) → joint es s ≡ Ok (after_dues (dues es s) s)

-- where the first step that stops is a fault, there is no joint effect, because of that fault
abbrev pub JointStops : (Fraction → Type 0) → Type 0
JointStops fits = (es : List Effect) (s : State) (why : Fault) → FirstStop fits (joint_steps es s) (fault why) → joint es s ≡ Err why

-- effects that are added after others: their steps and the writes that they make due come behind
abbrev pub AddingMore : Type 0
AddingMore = (es fs : List Effect) (s : State) → (add_steps (es ++ fs) s ≡ add_steps es s ++ add_steps fs s) × (dues (es ++ fs) s ≡ dues es s ++ dues fs s)
