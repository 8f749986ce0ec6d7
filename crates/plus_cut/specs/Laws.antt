-- Laws of a search with a cut.
use Rattle.std.specs.Prelude.{◌≡◌, ◌↔◌, ℕ, Bool, pos}
use Rattle.plus_fraction.specs.Fraction.{Fraction, whole, ◌<ℚ◌}
use Rattle.plus_model.specs.Terms.{State}
use Rattle.plus_state.specs.declared.outcome.TimedPlan.{TimedPlan}
use Rattle.plus_planner.specs.declared.searching.Answer.{Answer}
use Rattle.plus_planner.specs.declared.searching.Answer.TheVariants.{Plan, NoPlan}
use Rattle.plus_planner.specs.Grid.{Task, IsKept}
use Rattle.plus_planner.specs.Places.{no_cut}
use Rattle.plus_planner.specs.Searches.{Answers}
use Rattle.plus_cut.specs.Answers.{HasNoneBy, CutAnswers}
use Rattle.plus_cut.specs.Lost.{lost}

-- a search without a cut is one with the cut that never says yes
abbrev pub CutIsNone : {Q : Type 0} → (Q → Fraction) → (Fraction → Type 0) → Type 0
CutIsNone {Q} v fits =
    (task : Task) (k tries : ℕ) (answer : Answer Q)
    → CutAnswers v fits task no_cut k tries answer ↔ Answers v fits task k tries answer

-- where there is no plan, as many lists are beyond in each answer with one cut
abbrev pub NoneOnceByCut : (Fraction → Type 0) → Type 0
NoneOnceByCut fits =
    (task : Task) (cut : State → ℕ → Bool) (k n m : ℕ) → HasNoneBy fits task cut k n → HasNoneBy fits task cut k m → n ≡ m

-- two searches, with whatever cuts and tries, never find a plan and none
abbrev pub PlanOrNoneByCut : {Q : Type 0} → (Q → Fraction) → (Fraction → Type 0) → Type 0
PlanOrNoneByCut {Q} v fits =
    (task : Task) (cut cut' : State → ℕ → Bool) (k tries tries' n : ℕ) (plan : TimedPlan Q) (answer : Answer Q)
    → CutAnswers v fits task cut k tries (Plan plan) → answer ≡ NoPlan n → CutAnswers v fits task cut' k tries' answer → ⊥

-- the cut by atoms that nothing adds has the fact that is kept with a cut, where time goes on in steps
abbrev pub LostIsKept : (Fraction → Type 0) → Type 0
LostIsKept fits =
    (task : Task) → whole (pos 0) <ℚ task.interval → IsKept fits task (lost task.problem task.actions)
