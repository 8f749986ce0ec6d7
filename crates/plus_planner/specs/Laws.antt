-- What a search on a grid may rely on.
use Rattle.std.specs.Prelude.{◌≡◌, ◌⊎◌, ℕ, Bool, List, [], ◌∷◌, ◌++◌, Some, None, slice_get, true, false, pos}
use Rattle.plus_fraction.specs.Fraction.{Fraction, whole}
use Rattle.plus_model.specs.Terms.{Action, State, Problem}
use Rattle.plus_model.specs.Plan.{Called, Line, ActLine, EndLine, time_of, Plan, IsInOrder}
use Rattle.plus_model.specs.History.{Part}
use Rattle.plus_model.specs.Trajectory.{Prefix, Trajectory, view_of}
use Rattle.plus_search.specs.Tree.{IsTree}
use Rattle.plus_stretch.specs.Tests.{Test}
use Rattle.plus_timeline.specs.Asked.{asked}
use Rattle.plus_planner.specs.Grid.{Task, timed, IsClear, Plays, GridPlan, IsKept, grid}
use Rattle.plus_planner.specs.Searches.{HasNone}

-- the lists of decisions are a tree, and the kept fact of a cut is what the tree asks of it
abbrev pub GridIsTree : (Fraction → Type 0) → Type 0
GridIsTree fits =
    (task : Task) (cut : State → ℕ → Bool) → IsKept fits task cut → IsTree (grid fits task cut)

-- the lines so far, and then the end at this time
abbrev pub ending_at : List Line → Fraction → Plan
ending_at lines t = record { lines = lines ++ EndLine t ∷ []; closed = false }

-- the time of the last line, or the beginning
abbrev pub last_time : List Line → Fraction
last_time [] = whole (pos 0)
last_time (line ∷ []) = time_of line
last_time (line ∷ next ∷ lines) = last_time (next ∷ lines)

-- what is played of lines that end with their last action goes on to be what happens where the end is later
abbrev pub WaitGoesOn : Type 0
WaitGoesOn =
    (P : Problem) (lines : List Line) (t : Fraction) (h : List Part)
    → Prefix P (ending_at lines (last_time lines)) h → IsInOrder (ending_at lines t).lines
    → Prefix P (ending_at lines t) h

-- what is played up to a time goes on to be what happens where an action is due then, and any lines follow
abbrev pub ActGoesOn : Type 0
ActGoesOn =
    (P : Problem) (lines more : List Line) (t : Fraction) (call : Called) (closed : Bool) (h : List Part)
    → Prefix P (ending_at lines t) h → IsInOrder (lines ++ ActLine t call ∷ more)
    → Prefix P record { lines = lines ++ ActLine t call ∷ more; closed = closed } h

-- the same lines, read to their end
abbrev pub whole_plan : Task → List ℕ → Plan
whole_plan task ds = record { lines = (timed task ds).lines; closed = true }

-- a plan on the grid has a trajectory: what is printed of it is a valid plan
abbrev pub GridPlanIsPlan : (Fraction → Type 0) → Type 0
GridPlanIsPlan fits =
    (task : Task) (k : ℕ) (ds : List ℕ) → GridPlan fits task k ds
    → (h : List Part) × Trajectory task.problem (whole_plan task ds) h

-- and what is asked there before the last of it stays the same: a wait that is lengthened tests anew only
-- what comes after the last action
abbrev pub AskedGoesOn : Type 0
AskedGoesOn =
    (P : Problem) (lines : List Line) (t : Fraction) (most : ℕ) (instance : ℕ → List Test) (entries : ℕ)
    (h : List Part) (part : Part)
    → Prefix P (ending_at lines (last_time lines)) h
    → Prefix P (ending_at lines (last_time lines)) (h ++ part ∷ [])
    → asked P (ending_at lines (last_time lines)) most instance entries (view_of P h)
    ≡ asked P (ending_at lines t) most instance entries (view_of P h)

-- what is played of a list is what happens first where one more action follows, and all that was asked passes
-- there too
abbrev pub CanAct : (Fraction → Type 0) → Type 0
CanAct fits =
    (task : Task) (ds : List ℕ) (k : ℕ) (action : Action) (h : List Part)
    → slice_get task.actions k ≡ Some action → Plays fits task ds h
    → Prefix task.problem (timed task (ds ++ k ∷ [])) h × IsClear fits task (ds ++ k ∷ []) h

abbrev pub AllWaits : List Action → List ℕ → Type 0
AllWaits actions [] = Unit {0}
AllWaits actions (d ∷ ds) = (slice_get actions d ≡ None) × AllWaits actions ds

-- the list is empty, or ends with an action
abbrev pub EndsWithAction : List Action → List ℕ → Type 0
EndsWithAction actions ds =
    (ds ≡ []) ⊎ (es : List ℕ) × (k : ℕ) × (action : Action) × (ds ≡ es ++ k ∷ []) × (slice_get actions k ≡ Some action)

-- and the same where waits follow the last action, however many
abbrev pub CanWait : (Fraction → Type 0) → Type 0
CanWait fits =
    (task : Task) (ds ws : List ℕ) (h : List Part)
    → EndsWithAction task.actions ds → AllWaits task.actions ws
    → IsInOrder (timed task (ds ++ ws)).lines → Plays fits task ds h
    → Prefix task.problem (timed task (ds ++ ws)) h × IsClear fits task (ds ++ ws) h

-- where there is no plan, as many lists are beyond in each answer
abbrev pub NoneOnce : (Fraction → Type 0) → Type 0
NoneOnce fits = (task : Task) (k n m : ℕ) → HasNone fits task k n → HasNone fits task k m → n ≡ m
