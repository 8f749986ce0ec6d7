-- The plan of ground actions at times, and the calls that say it.
use Rattle.std.specs.Prelude.{◌≡◌, ℕ, List, [], ◌∷◌, ◌++◌, map, All, Some, slice_get}
use Rattle.std.specs.List.{AllZip}
use Rattle.plus_fraction.specs.Fraction.{Fraction}
use Rattle.plus_model.specs.Terms.{Action}
use Rattle.plus_model.specs.Plan.{Instance, Line, ActLine, EndLine}
use Rattle.plus_tree.specs.declared.trees.Domain.{Domain}
use Rattle.plus_tree.specs.declared.trees.Problem.{Problem}
use Rattle.plus_report.specs.Plans.{Timed}
use Rattle.plus_actions.specs.Actions.{ground_actions}
use Rattle.laws_found.specs.Text.Written.{TimedCall, IsPlanTime}
use Rattle.laws_found.specs.Calls.Calls.{IsCalledBy}

-- an action that is done at a time
abbrev pub TimedAction : Type 0
TimedAction = Fraction × Action

-- each is a ground action
abbrev pub AreGround : Domain → Problem → List TimedAction → Type 0
AreGround d p acts = All (λ a. (k : ℕ) × (slice_get (ground_actions d p) k ≡ Some a.1)) acts

-- each is done at a time of a plan
abbrev pub HavePlanTimes : List TimedAction → Type 0
HavePlanTimes acts = All (λ a. IsPlanTime a.0) acts

-- the lines of the plan in which these actions are done, and which ends then
abbrev pub plan_with : List TimedAction → Fraction → List Line
plan_with acts last = map (λ a. ActLine a.0 (Instance a.1)) acts ++ EndLine last ∷ []

-- an action by its label, with its time
abbrev pub labelled : TimedAction → Timed
labelled a = (a.0, a.1.label)

-- the call names the action, at its time
pub record IsCalledAt (d : Domain) (p : Problem) (act : TimedAction) (call : TimedCall) : Type 0 where
  pub time : call.0 ≡ act.0
  pub called : IsCalledBy d p act.1 call.1

-- the calls name the actions one by one
abbrev pub AreCalledBy : Domain → Problem → List TimedAction → List TimedCall → Type 0
AreCalledBy d p acts calls = AllZip (IsCalledAt d p) acts calls
