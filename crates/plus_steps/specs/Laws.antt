-- Plans of the translation are stepped plans, and each stepped plan is that of exactly one plan of the translation. Each
-- plan goes along one path of states.
use Rattle.std.specs.Prelude.{◌≡◌, ℕ, ◌<◌, true, List, [], ◌∷◌, ◌++◌, All, pos}
use Rattle.plus_fraction.specs.Fraction.{Fraction, whole, ◌<ℚ◌}
use Rattle.plus_model.specs.Terms.{Action, Condition, Timed, State, Problem, Event, Process}
use Rattle.plus_model.specs.Value.{holds}
use Rattle.plus_model.specs.Plan.{Called, Instance}
use Rattle.plus_state.specs.Fits.{Fits, ActionFits, RateFits, StateFits, AllEffectsFit}
use Rattle.plus_steps.specs.Stepped.{Move, Rests, Acted, Ticked, SteppedPlan, time_of_step}
use Rattle.plus_steps.specs.Numeric.{CallDoes, NumericPlan, CallsLead}
use Rattle.plus_steps.specs.Translation.{Part, strip, part_meant, goal_translated, initial_translated}

pub record EventInside (atoms fluents : ℕ) (e : Event) : Type 0 where
  pub condition : Fits atoms fluents e.condition
  pub effects : AllEffectsFit atoms fluents e.effects

pub record ProcessInside (atoms fluents : ℕ) (p : Process) : Type 0 where
  pub condition : Fits atoms fluents p.condition
  pub rates : All (RateFits fluents) p.rates

-- the time is a whole number of steps
pub record IsOnGrid (q time : Fraction) : Type 0 where
  pub steps : ℕ
  pub at : time ≡ time_of_step q steps

-- what the two laws ask: a step takes time, literals stand on the grid, and ids are places
pub record CanBeStepped {C : Type 0} (P : Problem) (q : Fraction) (meant : C → Called) : Type 0 where
  pub passes : whole (pos 0) <ℚ q
  pub grid : All (λ (l : Timed). IsOnGrid q l.time) P.timed
  pub timed : All (λ (l : Timed). l.atom < P.atoms) P.timed
  pub processes : All (ProcessInside P.atoms P.fluents) P.processes
  pub events : All (EventInside P.atoms P.fluents) P.events
  pub initial : StateFits P.atoms P.fluents P.initial
  pub goal : Fits P.atoms P.fluents P.goal
  pub calls : (call : C) (a : Action) → meant call ≡ Instance a → ActionFits P.atoms P.fluents a

abbrev pub IsNumericPlan : {C : Type 0} → Problem → Fraction → (C → Called) → List (Part C) → Type 0
IsNumericPlan P q meant parts = NumericPlan (part_meant P q meant) (goal_translated P) (initial_translated P) parts

abbrev pub PlansAreStepped : Type 0 → Type 0
PlansAreStepped C =
    (P : Problem) (q : Fraction) (meant : C → Called) (parts : List (Part C))
    → CanBeStepped P q meant → IsNumericPlan P q meant parts → SteppedPlan P q meant (strip parts)

-- exactly one plan of the translation is left as these moves
pub record OnePlan {C : Type 0} (P : Problem) (q : Fraction) (meant : C → Called) (moves : List (Move C)) : Type 0 where
  pub parts : List (Part C)
  pub plan : IsNumericPlan P q meant parts
  pub is : strip parts ≡ moves
  pub one : (other : List (Part C)) → IsNumericPlan P q meant other → strip other ≡ moves → other ≡ parts

abbrev pub SteppedHasOnePlan : Type 0 → Type 0
SteppedHasOnePlan C =
    (P : Problem) (q : Fraction) (meant : C → Called) (moves : List (Move C))
    → CanBeStepped P q meant → SteppedPlan P q meant moves → OnePlan P q meant moves

-- a call: a name and names of objects
abbrev pub CallName : Type 0
CallName = List ℕ × List (List ℕ)

-- ---- one path of states

-- rounds from a state end in one state, and so do the beginning, an act and a step; without time so does a call
abbrev pub OneStart : Type 0
OneStart = (P : Problem) (fired : List ℕ) (s a b : State) → Rests P fired s a → Rests P fired s b → a ≡ b

abbrev pub OneAct : Type 0 → Type 0
OneAct C = (P : Problem) (meant : C → Called) (call : C) (s a b : State) → Acted P meant call s a → Acted P meant call s b → a ≡ b

abbrev pub OneTick : Type 0
OneTick = (P : Problem) (q : Fraction) (n : ℕ) (s a b : State) → Ticked P q n s a → Ticked P q n s b → a ≡ b

abbrev pub OneCall : Type 0 → Type 0
OneCall C = (meant : C → Called) (call : C) (s a b : State) → CallDoes meant call s a → CallDoes meant call s b → a ≡ b

-- ---- plans without time, call by call

-- one call more
abbrev pub CallsGoOn : Type 0 → Type 0
CallsGoOn C =
    (meant : C → Called) (calls : List C) (call : C) (s last after : State)
    → CallsLead meant s calls last → CallDoes meant call last after → CallsLead meant s (calls ++ call ∷ []) after

-- calls that lead to a state in which the goal holds are a plan
abbrev pub CallsEnd : Type 0 → Type 0
CallsEnd C =
    (meant : C → Called) (goal : Condition) (calls : List C) (s last : State)
    → CallsLead meant s calls last → holds goal last ≡ true → NumericPlan meant goal s calls

-- a plan that begins with these calls goes on from the state to which they lead
abbrev pub CallsBegin : Type 0 → Type 0
CallsBegin C =
    (meant : C → Called) (goal : Condition) (calls rest : List C) (s last : State)
    → CallsLead meant s calls last → NumericPlan meant goal s (calls ++ rest) → NumericPlan meant goal last rest
