-- What is left out is never done, and what is answered without it is answered for all actions.
use Rattle.std.specs.Prelude.{◌≡◌, ℕ, Bool, false, List, [], ◌∷◌, ◌++◌, Some, slice_get}
use Rattle.plus_fraction.specs.Fraction.{Fraction}
use Rattle.plus_model.specs.Terms.{Action, State}
use Rattle.plus_model.specs.History.{Part}
use Rattle.plus_planner.specs.declared.searching.Answer.{Answer}
use Rattle.plus_planner.specs.Grid.{Task, Plays, IsAlive, EndsBeyond, IsKept}
use Rattle.plus_cut.specs.Answers.{CutAnswers}
use Rattle.plus_possible.specs.Possible.{possible, narrowed}

-- behind a list that can be played it is refused, and by no limit
abbrev pub NeverDone : (Fraction → Type 0) → Type 0
NeverDone fits =
    (task : Task) (ds : List ℕ) (k : ℕ) (action : Action) (h : List Part)
    → slice_get task.actions k ≡ Some action → possible task.problem task.actions action ≡ false → Plays fits task ds h
    → (IsAlive fits task (ds ++ k ∷ []) → ⊥) × (EndsBeyond fits task (ds ++ k ∷ []) → ⊥)

-- what a search over the others answers is an answer over all, with the same cut
abbrev pub AnswersForAll : {Q : Type 0} → (Q → Fraction) → (Fraction → Type 0) → Type 0
AnswersForAll {Q} v fits =
    (task : Task) (cut : State → ℕ → Bool) (k tries : ℕ) (answer : Answer Q)
    → CutAnswers v fits (narrowed task) cut k tries answer → CutAnswers v fits task cut k tries answer

-- and what is kept with a cut over all actions is kept with it over the others
abbrev pub KeptForFewer : (Fraction → Type 0) → Type 0
KeptForFewer fits = (task : Task) (cut : State → ℕ → Bool) → IsKept fits task cut → IsKept fits (narrowed task) cut
