-- Plans without time, for a problem without processes and events: actions one after the other.
use Rattle.std.specs.Prelude.{◌≡◌, true, List, [], ◌∷◌}
use Rattle.plus_model.specs.Terms.{Action, Condition, State}
use Rattle.plus_model.specs.Value.{holds}
use Rattle.plus_model.specs.Plan.{Called, Instance}
use Rattle.plus_steps.specs.Stepped.{Does}

-- a call is done
pub record CallDoes {C : Type 0} (meant : C → Called) (call : C) (s after : State) : Type 0 where
  pub action : Action
  pub called : meant call ≡ Instance action
  pub does : Does action s after

-- the calls may be done one after the other, and the goal holds at the end
abbrev pub NumericPlan : {C : Type 0} → (C → Called) → Condition → State → List C → Type 0
NumericPlan meant goal s [] = holds goal s ≡ true
NumericPlan meant goal s (call ∷ calls) = (after : State) × CallDoes meant call s after × NumericPlan meant goal after calls

-- the calls may be done one after the other, and lead to this state
abbrev pub CallsLead : {C : Type 0} → (C → Called) → State → List C → State → Type 0
CallsLead meant s [] last = last ≡ s
CallsLead meant s (call ∷ calls) last = (after : State) × CallDoes meant call s after × CallsLead meant after calls last
