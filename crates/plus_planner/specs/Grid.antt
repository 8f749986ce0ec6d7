-- What a plan on a grid of times is: a list of decisions, each an action at the present time, or a wait
-- of one interval. The decisions are numbered: those below the number of actions are the actions, and the
-- number of actions is the wait. A list is known by what its timed lines lead to in the meaning of plans,
-- and a wait that follows a wait lengthens the stretch: a grid moment at which nothing was decided is a
-- moment of the history only where something happens there.
use Rattle.std.specs.Prelude.{◌≡◌, ◌≢◌, ◌⊎◌, ℕ, suc, ◌≤◌, ◌<◌, Bool, true, false, List, [], ◌∷◌, ◌++◌, Option, Some, None, slice_get, length, pos}
use Rattle.plus_fraction.specs.Fraction.{Fraction, whole, ◌*ℚ◌}
use Rattle.plus_model.specs.Terms.{Action, State, Problem}
use Rattle.plus_model.specs.Plan.{Instance, Line, ActLine, EndLine, time_of, Plan}
use Rattle.plus_model.specs.History.{Part}
use Rattle.plus_model.specs.Trajectory.{IsWorked, Prefix, view_of}
use Rattle.plus_search.specs.Tree.{Tree}
use Rattle.plus_stretch.specs.Tests.{Test, AllPass, FirstFailing, IsLimit}
use Rattle.plus_timeline.specs.Asked.{goal_tests}
use Rattle.plus_timeline.specs.Played as played

-- what is searched: a ground problem, the actions, and the interval; and how many moments a history may
-- enter
pub record Task : Type 0 where
  pub problem : Problem
  pub actions : List Action
  pub interval : Fraction
  pub most : ℕ

-- so many intervals
abbrev pub ticks : Fraction → ℕ → Fraction
ticks q n = whole (pos n) *ℚ q

abbrev pub line_for : Option Action → Fraction → List Line → List Line
line_for (Some action) t lines = ActLine t (Instance action) ∷ lines
line_for None t lines = lines

-- one more tick where the decision is the wait
abbrev pub after_decision : Option Action → ℕ → ℕ
after_decision (Some action) n = n
after_decision None n = suc n

-- the lines of a list of decisions, from the n-th tick on. They end with the time that it comes to.
abbrev pub lines_from : List Action → Fraction → ℕ → List ℕ → List Line
lines_from actions q n [] = EndLine (ticks q n) ∷ []
lines_from actions q n (d ∷ ds) =
    line_for (slice_get actions d) (ticks q n)
    (lines_from actions q (after_decision (slice_get actions d) n) ds)

-- the actions among them, and the tick after the last decision
abbrev pub acts_from : List Action → Fraction → ℕ → List ℕ → List Line
acts_from actions q n [] = []
acts_from actions q n (d ∷ ds) =
    line_for (slice_get actions d) (ticks q n) (acts_from actions q (after_decision (slice_get actions d) n) ds)

abbrev pub tick_after : List Action → ℕ → List ℕ → ℕ
tick_after actions n [] = n
tick_after actions n (d ∷ ds) = tick_after actions (after_decision (slice_get actions d) n) ds

-- the plan as far as it was decided: more may be decided later
abbrev pub timed : Task → List ℕ → Plan
timed task ds = record { lines = lines_from task.actions task.interval 0 ds; closed = false }

abbrev pub AllTimes : (Fraction → Type 0) → List Line → Type 0
AllTimes fits [] = Unit {0}
AllTimes fits (line ∷ lines) = fits (time_of line) × AllTimes fits lines

-- what is asked at a history of a plan. An action of a search asks nothing before its condition.
abbrev pub asked_in : Problem → Plan → ℕ → List Part → List Test
asked_in P L most h = played.asked_at P L most (λ i. []) h

-- no test fails before the end of the history
abbrev pub IsClearIn : (Fraction → Type 0) → Problem → Plan → ℕ → List Part → Type 0
IsClearIn fits P L most h = played.IsClear fits P L most (λ i. []) h

-- the same of the plan that decisions make
abbrev pub asked_at : Task → List ℕ → List Part → List Test
asked_at task ds h = asked_in task.problem (timed task ds) task.most h

abbrev pub IsClear : (Fraction → Type 0) → Task → List ℕ → List Part → Type 0
IsClear fits task ds h = IsClearIn fits task.problem (timed task ds) task.most h

-- this is what happens when all decisions are taken, and nothing stands in the way
pub record Plays (fits : Fraction → Type 0) (task : Task) (ds : List ℕ) (h : List Part) : Type 0 where
  pub times : AllTimes fits (timed task ds).lines
  pub prefix : Prefix task.problem (timed task ds) h
  pub worked : IsWorked task.problem (timed task ds) (view_of task.problem h)
  pub clear : IsClear fits task ds h
  pub passes : AllPass fits (asked_at task ds h)

-- the list can be played, and so can each beginning of it
pub record IsAlive (fits : Fraction → Type 0) (task : Task) (ds : List ℕ) : Type 0 where
  pub each :
      (ps qs : List ℕ) → ds ≡ ps ++ qs → (h : List Part) × Plays fits task ps h
  pub within : (ps qs : List ℕ) (d : ℕ) → ds ≡ ps ++ d ∷ qs → d < suc (length task.actions)

-- a limit stands at this history, and nothing before it
pub record Halts (fits : Fraction → Type 0) (task : Task) (ds : List ℕ) (h : List Part) : Type 0 where
  pub prefix : Prefix task.problem (timed task ds) h
  pub clear : IsClear fits task ds h
  pub test : Test
  pub first : FirstFailing fits (asked_at task ds h) test
  pub limit : IsLimit test

-- each beginning of the list but the whole can be played, and the whole ends in a limit: its last time is
-- no number, or a limit stands in what happens
pub record EndsBeyond (fits : Fraction → Type 0) (task : Task) (ds : List ℕ) : Type 0 where
  pub before : (ps qs : List ℕ) → qs ≢ [] → ds ≡ ps ++ qs → IsAlive fits task ps
  pub within : (ps qs : List ℕ) (d : ℕ) → ds ≡ ps ++ d ∷ qs → d < suc (length task.actions)
  pub beyond : (AllTimes fits (timed task ds).lines → ⊥) ⊎ (h : List Part) × Halts fits task ds h

-- the state at the end of the list
pub record EndsIn (fits : Fraction → Type 0) (task : Task) (ds : List ℕ) (s : State) : Type 0 where
  pub history : List Part
  pub plays : Plays fits task ds history
  pub state : s ≡ (view_of task.problem history).state

-- the goal holds at the end, and all that its test needs are numbers
pub record ReachesGoal (fits : Fraction → Type 0) (task : Task) (ds : List ℕ) : Type 0 where
  pub state : State
  pub ends : EndsIn fits task ds state
  pub goal : AllPass fits (goal_tests task.problem state)

-- the goal's test at the end stops at a limit
pub record LeavesOpen (fits : Fraction → Type 0) (task : Task) (ds : List ℕ) : Type 0 where
  pub state : State
  pub ends : EndsIn fits task ds state
  pub test : Test
  pub first : FirstFailing fits (goal_tests task.problem state) test
  pub limit : IsLimit test

-- the list is a plan of at most k decisions
pub record GridPlan (fits : Fraction → Type 0) (task : Task) (k : ℕ) (ds : List ℕ) : Type 0 where
  pub short : length ds ≤ k
  pub alive : IsAlive fits task ds
  pub goal : ReachesGoal fits task ds

-- the fact that is kept with a cut: its yes on a state means that no plan goes on from a list that ends in
-- it, by at most so many decisions
abbrev pub IsKept : (Fraction → Type 0) → Task → (State → ℕ → Bool) → Type 0
IsKept fits task cut =
    (s : State) (m : ℕ) → cut s m ≡ true → (ds es : List ℕ) → EndsIn fits task ds s → length es ≤ m
    → GridPlan fits task (length (ds ++ es)) (ds ++ es) → ⊥

-- the tree that is searched
abbrev pub grid : (Fraction → Type 0) → Task → (State → ℕ → Bool) → Tree
grid fits task cut = record {
  width = suc (length task.actions);
  Alive = IsAlive fits task;
  Beyond = EndsBeyond fits task;
  Reached = ReachesGoal fits task;
  Unclear = LeavesOpen fits task;
  Barren = λ ds k. (s : State) × EndsIn fits task ds s × (cut s k ≡ true);
}
