-- The plan that a search on a grid of times found, by the calls of the actions that it decided on.
use Rattle.std.specs.Prelude.{◌≡◌, ℕ, List, [], ◌∷◌, Option, Some, None, All, slice_get}
use Rattle.plus_fraction.specs.Fraction.{Fraction}
use Rattle.plus_model.specs.Terms.{Action}
use Rattle.plus_number.specs.declared.frac.Frac64.{Frac64}
use Rattle.plus_number.specs.Frac.{fraction_of, IsFrac64}
use Rattle.plus_state.specs.declared.outcome.TimedPlan.{TimedPlan}
use Rattle.plus_tree.specs.declared.trees.Domain.{Domain}
use Rattle.plus_tree.specs.declared.trees.Problem.{Problem}
use Rattle.plus_report.specs.Plans.{acts_of, plan_text}
use Rattle.plus_plan.specs.declared.forms.Line.{Line}
use Rattle.laws_found.specs.Text.Written.{TimedCall, IsPlanTime, IsPlainCall, written_plan, Say}
use Rattle.plus_stretch.specs.Tests.{AllPass}
use Rattle.plus_planner.specs.Grid.{ticks, after_decision, timed}
use Rattle.plus_plan_command.specs.Planning.Planned.{task_of}
use Rattle.plus_validator.specs.Plans.{pair, lines_meant}
use Rattle.plus_validator.specs.Asking.{instances_of}
use Rattle.laws_found.specs.Calls.Plans.{TimedAction}

-- an action is done at this time, and a wait does nothing
abbrev pub done_at : Option Action → Fraction → List TimedAction → List TimedAction
done_at (Some action) t acts = (t, action) ∷ acts
done_at None t acts = acts

-- the actions among the decisions, each at its time, from the n-th tick on
abbrev pub decided_from : List Action → Fraction → ℕ → List ℕ → List TimedAction
decided_from actions q n [] = []
decided_from actions q n (d ∷ ds) =
    done_at (slice_get actions d) (ticks q n) (decided_from actions q (after_decision (slice_get actions d) n) ds)

-- These calls, and this end, say the plan of the decisions: the plan's text is what is written of them, they are plain, and whatever
-- lines say them are the lines of the decisions, where all passes that is asked of the instances.
pub record AreCallsOf (d : Domain) (p : Problem) (q : Fraction) (ds : List ℕ) (plan : TimedPlan Frac64) (calls : List TimedCall) (last : Fraction) : Type 0 where
  pub text : plan_text (acts_of fraction_of plan.acts.items) (fraction_of plan.«end») ≡ written_plan calls last
  pub plain : All IsPlainCall calls
  pub ends : IsPlanTime last
  pub meant : (lines : List Line) → Say 1 calls last lines → lines_meant (pair d p) lines ≡ (timed (task_of d p q) ds).lines
  pub within : (lines : List Line) → Say 1 calls last lines → (i : ℕ) → AllPass IsFrac64 (instances_of (pair d p) lines i)
