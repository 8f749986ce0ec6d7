-- What a refusal by a breach means: no plan does here what was asked for.
use Rattle.std.specs.Prelude.{[]}
use Rattle.plus_model.specs.Terms.{Action, State, Problem}
use Rattle.plus_steps.specs.Stepped.{Does, Rests}

-- the action can not be done in this state
abbrev pub CannotDo : Action → State → Type 0
CannotDo action s = (after : State) → Does action s after → ⊥

-- no cascade from this state comes to an end
abbrev pub CannotRest : Problem → State → Type 0
CannotRest P s = (last : State) → Rests P [] s last → ⊥
