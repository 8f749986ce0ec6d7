-- The timed plan that a list of decisions makes.
use Rattle.std.specs.Prelude.{◌≡◌, ℕ, List, [], ◌∷◌, Option, Some, None, slice_get, map}
use Rattle.plus_fraction.specs.Fraction.{Fraction}
use Rattle.plus_model.specs.Terms.{Action}
use Rattle.plus_state.specs.declared.outcome.TimedPlan.{TimedPlan}
use Rattle.plus_planner.specs.declared.places.Taken.{Taken}
use Rattle.plus_timeline.specs.Timeline.{TimelineView}
use Rattle.plus_planner.specs.Grid.{Task, ticks, after_decision, tick_after}
use Rattle.plus_planner.specs.Places.{now_in}

-- an action by its label, with its time
abbrev pub TimedLabel : Type 0
TimedLabel = Fraction × List ℕ

abbrev pub labelled : Option Action → Fraction → List TimedLabel → List TimedLabel
labelled (Some action) t rest = (t, action.label) ∷ rest
labelled None t rest = rest

-- the actions among the decisions, each with its time, from the n-th tick on
abbrev pub labels_from : List Action → Fraction → ℕ → List ℕ → List TimedLabel
labels_from actions q n [] = []
labels_from actions q n (d ∷ ds) =
    labelled (slice_get actions d) (ticks q n) (labels_from actions q (after_decision (slice_get actions d) n) ds)

-- the actions of a plan, with their times as fractions
abbrev pub acts_of : {Q : Type 0} → (Q → Fraction) → List (Q × List ℕ) → List TimedLabel
acts_of v acts = map (λ a. (v a.0, a.1)) acts

-- the plan has the actions among the decisions, each at its time, and ends at the time that they come to
pub record IsPlanOf {Q : Type 0} (v : Q → Fraction) (task : Task) (ds : List ℕ) (plan : TimedPlan Q) : Type 0 where
  pub acts : acts_of v plan.acts.items ≡ labels_from task.actions task.interval 0 ds
  pub ends : v plan.«end» ≡ ticks task.interval (tick_after task.actions 0 ds)

-- the actions among what was taken, each at the time of its timeline
abbrev pub labels_in : {Q : Type 0} → List Action → List (Taken Q) → List TimedLabel
labels_in actions [] = []
labels_in actions (x ∷ xs) = labelled (slice_get actions x.decision) x.timeline.now.time (labels_in actions xs)

-- the plan lists the actions that were taken, and ends at the time of the last timeline
pub record Lists {Q : Type 0} (v : Q → Fraction) (actions : List Action) (start : TimelineView) (taken : List (Taken Q)) (plan : TimedPlan Q) : Type 0 where
  pub acts : acts_of v plan.acts.items ≡ labels_in actions taken
  pub ends : v plan.«end» ≡ (now_in start taken).now.time
