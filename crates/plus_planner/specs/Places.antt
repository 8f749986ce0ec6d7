-- Where a walk over decisions stands: a timeline for each list of decisions on the way.
use Rattle.std.specs.Prelude.{◌≡◌, ◌⊎◌, ℕ, suc, ◌<◌, ◌^◌, Bool, false, List, [], ◌∷◌, ◌++◌, map, length, Some, None, slice_get, nat_lt, pos, if◌then◌else◌}
use Rattle.plus_fraction.specs.Fraction.{Fraction, whole, ◌<ℚ◌}
use Rattle.plus_model.specs.Terms.{Action, State, Problem}
use Rattle.plus_model.specs.History.{Part}
use Rattle.plus_model.specs.Trajectory.{view_of}
use Rattle.plus_state.specs.Fits.{ActionFits}
use Rattle.plus_timeline.specs.Timeline.{TimelineView}
use Rattle.plus_timeline.specs.Finish.{IsPaused}
use Rattle.plus_timeline.specs.Played.{entries_of}
use Rattle.plus_planner.specs.Grid.{Task, ticks, acts_from, tick_after, Plays, IsAlive, grid}
use Rattle.plus_planner.specs.declared.places.Taken.{Taken}
use Rattle.plus_planner.specs.Standing.{CanGoOn, Carried, IsNoLimit}
use Rattle.plus_search.specs.Tree.{Tree}
use Rattle.plus_search.specs.Told.{FateIs, path_after}
use Rattle.plus_search.specs.declared.spaces.Fate.{Fate}
use Rattle.plus_search.specs.declared.spaces.Fate.TheVariants.{Alive, Broken, Beyond}
use Rattle.plus_stretch.specs.Tests.{Test, AllPass, FirstFailing, IsLimit}
use Rattle.plus_timeline.specs.Act.{DoesAct}
use Rattle.plus_timeline.specs.Asked.{act_tests}

-- how many moments a history of a search may enter
abbrev pub most_entries : ℕ
most_entries = 10000

-- a search over these actions of a ground problem, on the grid of an interval
abbrev pub task_from : Problem → List Action → Fraction → Task
task_from P actions q = record { problem = P; actions = actions; interval = q; most = most_entries }

-- no cut: it never says that no plan goes on
abbrev pub no_cut : State → ℕ → Bool
no_cut s m = false

-- the tree that is searched without a cut
abbrev pub uncut : (Fraction → Type 0) → Task → Tree
uncut fits task = grid fits task no_cut

-- the timeline is that of what happens up to the end of the decisions
pub record StandsAt (fits : Fraction → Type 0) (task : Task) (ds : List ℕ) (t : TimelineView) : Type 0 where
  pub history : List Part
  pub plays : Plays fits task ds history
  pub now : t.now ≡ view_of task.problem history
  pub entries : t.entries ≡ entries_of history
  pub most : t.most ≡ task.most
  pub can : CanGoOn task.problem t
  pub paused : IsPaused t
  pub moment : t.now.running ≡ None
  pub acted : t.now.acted ≡ length (acts_from task.actions task.interval 0 ds)
  pub time : t.now.time ≡ ticks task.interval (tick_after task.actions 0 ds)

abbrev pub path_of : {Q : Type 0} → List (Taken Q) → List ℕ
path_of taken = map (λ x. x.decision) taken

-- a timeline stands after each decision, behind these decisions
abbrev pub StandFrom : {Q : Type 0} → (Fraction → Type 0) → Task → List ℕ → List (Taken Q) → Type 0
StandFrom {Q} fits task ds taken =
    (front back : List (Taken Q)) (x : Taken Q) → taken ≡ front ++ x ∷ back
    → StandsAt fits task (ds ++ (path_of front ++ x.decision ∷ [])) x.timeline

-- the timeline after the last decision
abbrev pub now_in : {Q : Type 0} → TimelineView → List (Taken Q) → TimelineView
now_in start [] = start
now_in start (x ∷ xs) = now_in x.timeline xs

-- the timeline after the last decision below a number
abbrev pub base_in : {Q : Type 0} → ℕ → TimelineView → List (Taken Q) → TimelineView
base_in n start [] = start
base_in n start (x ∷ xs) = base_in n (if nat_lt x.decision n then x.timeline else start) xs

-- the search may be made: the interval is above 0, the actions fit, and a decision is a number of 32 bits
pub record CanSearch (task : Task) : Type 0 where
  pub above : whole (pos 0) <ℚ task.interval
  pub fit : (k : ℕ) (action : Action) → slice_get task.actions k ≡ Some action → ActionFits task.problem.atoms task.problem.fluents action
  pub few : suc (length task.actions) < 2 ^ 32
  pub some : task.most ≡ most_entries

-- the walk stands at the end of the decisions that were taken: a timeline stands at the beginning, and one after each
pub record StandsBehind {Q : Type 0} (fits : Fraction → Type 0) (task : Task) (start : TimelineView) (taken : List (Taken Q)) : Type 0 where
  pub can : CanSearch task
  pub first : StandsAt fits task [] start
  pub each : StandFrom fits task [] taken
  pub alive : IsAlive fits task (path_of taken)

-- ---- what a decision does

-- what was taken, after a decision that leads to this timeline
abbrev pub taken_after : {Q : Type 0} → Fate → List (Taken Q) → ℕ → TimelineView → List (Taken Q)
taken_after Alive taken d t = taken ++ record { decision = d; timeline = t } ∷ []
taken_after Broken taken d t = taken
taken_after Beyond taken d t = taken

-- a timeline was carried to the time u, and stands behind the decision where it came there
pub record Goes {Q : Type 0} (fits : Fraction → Type 0) (P : Problem) (u : Fraction) (old : TimelineView) (d : ℕ) (taken taken' : List (Taken Q)) (fate : Fate) : Type 0 where
  pub new : TimelineView
  pub carried : Carried fits P u old new fate
  pub after : taken' ≡ taken_after fate taken d new

-- the kind of test by which an action is refused
abbrev pub KindOf : Fate → Test → Type 0
KindOf Alive t = ⊥
KindOf Broken t = IsNoLimit t
KindOf Beyond t = IsLimit t

-- an action is refused by the first test that fails
pub record ActFails (fits : Fraction → Type 0) (acted : ℕ) (action : Action) (s : State) (fate : Fate) : Type 0 where
  pub test : Test
  pub first : FirstFailing fits (act_tests acted action s) test
  pub kind : KindOf fate test

-- an action was done, and the timeline carried on to the present time
pub record DoesThen {Q : Type 0} (fits : Fraction → Type 0) (P : Problem) (action : Action) (d : ℕ) (t : TimelineView) (taken taken' : List (Taken Q)) (fate : Fate) : Type 0 where
  pub done : TimelineView
  pub passes : AllPass fits (act_tests t.now.acted action t.now.state)
  pub does : DoesAct P action t done
  pub goes : Goes fits P t.now.time done d taken taken' fate

-- an action is refused, and nothing was taken
pub record RefusesAct {Q : Type 0} (fits : Fraction → Type 0) (action : Action) (t : TimelineView) (taken taken' : List (Taken Q)) (fate : Fate) : Type 0 where
  pub fails : ActFails fits t.now.acted action t.now.state fate
  pub same : taken' ≡ taken

-- what becomes of an action at a timeline
abbrev pub ActEnds : {Q : Type 0} → (Fraction → Type 0) → Problem → Action → ℕ → TimelineView → List (Taken Q) → List (Taken Q) → Fate → Type 0
ActEnds fits P action d t taken taken' fate =
    RefusesAct fits action t taken taken' fate ⊎ DoesThen fits P action d t taken taken' fate

-- the action may be tried
pub record CanTry (P : Problem) (action : Action) (t : TimelineView) : Type 0 where
  pub goes : CanGoOn P t
  pub paused : IsPaused t
  pub fit : ActionFits t.atoms t.fluents action

-- the time after the wait is no number, and nothing was taken
pub record NoTime {Q : Type 0} (fits : Fraction → Type 0) (u : Fraction) (taken taken' : List (Taken Q)) (fate : Fate) : Type 0 where
  pub none : fits u → ⊥
  pub beyond : fate ≡ Beyond
  pub same : taken' ≡ taken

-- it is, and the timeline of the last action was carried on to it
pub record WaitsThen {Q : Type 0} (fits : Fraction → Type 0) (P : Problem) (u : Fraction) (d : ℕ) (base : TimelineView) (taken taken' : List (Taken Q)) (fate : Fate) : Type 0 where
  pub some : fits u
  pub goes : Goes fits P u base d taken taken' fate

abbrev pub WaitEnds : {Q : Type 0} → (Fraction → Type 0) → Problem → Fraction → ℕ → TimelineView → List (Taken Q) → List (Taken Q) → Fate → Type 0
WaitEnds fits P u d base taken taken' fate = NoTime fits u taken taken' fate ⊎ WaitsThen fits P u d base taken taken' fate

-- one decision more was tried
pub record Walks {Q : Type 0} (fits : Fraction → Type 0) (task : Task) (start start' : TimelineView) (taken taken' : List (Taken Q)) (d : ℕ) (fate : Fate) : Type 0 where
  pub told : FateIs (uncut fits task) (path_of taken ++ d ∷ []) fate
  pub path : path_of taken' ≡ path_after fate (path_of taken) d
  pub stands : StandsBehind fits task start' taken'
