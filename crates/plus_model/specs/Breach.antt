-- The breaches: why a plan has no trajectory. A breach stands at the end of the one longest prefix,
-- and names what is wrong there. At one view one breach stands at most, and where it stands no
-- later line can mend the plan. Nothing is said before the plan has begun: while no line is read
-- and the text is not at its end, no breach stands.
use Rattle.std.specs.Prelude.{◌≡◌, ◌≢◌, ◌⊎◌, ◌↔◌, ℕ, ◌<◌, ◌++◌, true, false, List, [], ◌∷◌, Some, None, IsSomeAnd, Ok, Err, slice_get}
use Rattle.plus_fraction.specs.Fraction.{Fraction, ◌-ℚ◌, ◌<ℚ◌, ◌≤ℚ◌}
use Rattle.plus_model.specs.Terms.{Action, Effect, State, Problem}
use Rattle.plus_model.specs.Value.{holds}
use Rattle.plus_model.specs.Joint.{Fault, NoValue as no_value, Conflict as conflict, joint}
use Rattle.plus_model.specs.Firing.{firing, first_shared, effects_of, is_in}
use Rattle.plus_model.specs.Running.{JustAfter, RunsAfter, rates, moved, holding, Chosen, Settled, first_coupled, IsQuiet}
use Rattle.plus_model.specs.Plan.{Called, Instance, UnknownAction as unknown, WrongArguments as wrong, Line, ActLine, EndLine, time_of, Plan}
use Rattle.plus_model.specs.History.{Part, View}
use Rattle.plus_model.specs.Trajectory.{next_line, until, HasBegun, IsWorked, Prefix, view_of}

-- what is wrong
pub data Breach : Type 0 where
  UnknownAction WrongArguments : ℕ → List ℕ → Breach  -- the line whose call is no action, and the name in it
  Precondition : ℕ → Breach  -- the line whose action does not apply
  Conflict NoValue : ℕ → Breach  -- the fluent whose writes clash, or that lacks a value or an amount
  Repeats : ℕ → Breach  -- the event that holds again in one cascade
  Unsettled : ℕ → Breach  -- the process by which the running set does not confirm itself
  Coupled : ℕ → ℕ → Breach  -- the process, and the moving fluent that a rate of it reads
  NoFirstMoment : ℕ → Fraction → Breach  -- the event that holds just after this moment, and not at it
  Goal : Breach  -- the goal does not hold at the end

-- the first number with this property
pub record IsFirst (Q : ℕ → Type 0) (k : ℕ) : Type 0 where
  pub has : Q k
  pub none_before : (j : ℕ) → j < k → Q j → ⊥

-- the last part is no Run and no event holds
pub record IsPresent (P : Problem) (v : View) : Type 0 where
  pub moment : v.running ≡ None
  pub still : firing P v.state ≡ []

-- no event holds, and time is to pass up to u: the running set is asked for
pub record IsOpen (P : Problem) (u : Fraction) (v : View) : Type 0 where
  pub present : IsPresent P v
  pub later : v.time <ℚ u

-- no event holds, and the next line calls this at the present time
pub record IsDue (P : Problem) (L : Plan) (v : View) (call : Called) : Type 0 where
  pub present : IsPresent P v
  pub due : next_line L v ≡ Some (ActLine v.time call)

-- these are the effects of the action that is due, whose condition holds
pub record ActsDue (P : Problem) (L : Plan) (v : View) (effects : List Effect) : Type 0 where
  pub action : Action
  pub due : IsDue P L v (Instance action)
  pub may : holds action.condition v.state ≡ true
  pub effects_is : effects ≡ action.effects

-- these are the effects of the round that is due, in which no event repeats
pub record RoundDue (P : Problem) (v : View) (effects : List Effect) : Type 0 where
  pub moment : v.running ≡ None
  pub some : firing P v.state ≢ []
  pub fresh : first_shared (firing P v.state) v.fired ≡ None
  pub effects_is : effects ≡ effects_of P (firing P v.state)

-- the joint effect that is due is none, for this reason
pub record JointFails (P : Problem) (L : Plan) (v : View) (why : Fault) : Type 0 where
  pub effects : List Effect
  pub due : RoundDue P v effects ⊎ ActsDue P L v effects
  pub fails : joint effects v.state ≡ Err why

-- the rates of the processes that hold, or of those that they choose, are none because of this
-- fluent
pub record RatesFail (P : Problem) (u : Fraction) (v : View) (f : ℕ) : Type 0 where
  pub «open» : IsOpen P u v
  pub fail :
      (rates P v.state (holding P v.state) ≡ Err f)
      ⊎ (running : List ℕ) × Chosen P v.state running × (rates P v.state running ≡ Err f)

-- whether the process runs just after is not what its membership says
abbrev pub Differs : Problem → State → List ℕ → List Fraction → ℕ → Type 0
Differs P s running rs p = ((is_in running p ≡ true) ↔ RunsAfter P s rs p) → ⊥

-- the chosen processes do not confirm themselves, and p is the first that shows it
pub record IsUnsettled (P : Problem) (u : Fraction) (v : View) (p : ℕ) : Type 0 where
  pub «open» : IsOpen P u v
  pub running : List ℕ
  pub chosen : Chosen P v.state running
  pub own : List Fraction
  pub own_is : rates P v.state running ≡ Ok own
  pub first : IsFirst (Differs P v.state running own) p

-- the running set is settled, and p is its first process with a rate that reads a moving fluent, f
-- the first such fluent
pub record IsCoupled (P : Problem) (u : Fraction) (v : View) (p f : ℕ) : Type 0 where
  pub «open» : IsOpen P u v
  pub running : List ℕ
  pub own : List Fraction
  pub settled : Settled P v.state running own
  pub first : first_coupled P running own ≡ Some (p, f)

-- the event holds just after
abbrev pub HoldsAfter : Problem → State → List Fraction → ℕ → Type 0
HoldsAfter P s rs e = IsSomeAnd (slice_get P.events e) (λ ev. JustAfter s rs ev.condition)

-- in the stretch nothing begins up to and with t, and e is the first event that holds just after t:
-- only a strict comparison, or the negation of one that is not strict, makes an event without a
-- first moment
pub record IsMomentless (P : Problem) (u : Fraction) (v : View) (e : ℕ) (t : Fraction) : Type 0 where
  pub running : List ℕ
  pub runs : v.running ≡ Some running
  pub rate : List Fraction
  pub rate_is : rates P v.state running ≡ Ok rate
  pub from : v.time ≤ℚ t
  pub before : t <ℚ u
  pub quiet :
      (x : Fraction) → v.time <ℚ x → x ≤ℚ t → IsQuiet P (moved v.state rate (x -ℚ v.time)) running rate
  pub first : IsFirst (HoldsAfter P (moved v.state rate (t -ℚ v.time)) rate) e

-- what stands at the view where it has this breach
abbrev pub Stands : Problem → Plan → View → Breach → Type 0
Stands P L v (UnknownAction i name) = (i ≡ v.acted) × IsDue P L v (unknown name)
Stands P L v (WrongArguments i name) = (i ≡ v.acted) × IsDue P L v (wrong name)
Stands P L v (Precondition i) =
    (i ≡ v.acted) × (action : Action)
    × IsDue P L v (Instance action) × (holds action.condition v.state ≡ false)
Stands P L v (Conflict f) = JointFails P L v (conflict f)
Stands P L v (NoValue f) = JointFails P L v (no_value f) ⊎ RatesFail P (until P L v) v f
Stands P L v (Repeats e) = (v.running ≡ None) × (first_shared (firing P v.state) v.fired ≡ Some e)
Stands P L v (Unsettled p) = IsUnsettled P (until P L v) v p
Stands P L v (Coupled p f) = IsCoupled P (until P L v) v p f
Stands P L v (NoFirstMoment e t) = IsMomentless P (until P L v) v e t
Stands P L v Goal = (L.closed ≡ true) × IsWorked P L v × (holds P.goal v.state ≡ false)

-- the plan has begun, and this breach stands at the view
pub record IsBreach (P : Problem) (L : Plan) (v : View) (b : Breach) : Type 0 where
  pub begun : HasBegun L
  pub stands : Stands P L v b

-- the plan breaks at this history by this breach
pub record Breaks (P : Problem) (L : Plan) (h : List Part) (b : Breach) : Type 0 where
  pub prefix : Prefix P L h
  pub breach : IsBreach P L (view_of P h) b

-- a breach of the line that is read next, after lines that are worked
pub data LineBreach : Type 0 where
  TimeGoesBack AfterEnd : LineBreach

-- the lines before are worked and this is their last; more lines are read, so the text is not at
-- its end
pub record IsAfter (P : Problem) (L : Plan) (v : View) (before : List Line) (last : Line) : Type 0 where
  pub worked : IsWorked P L v
  pub open_yet : L.closed ≡ false
  pub lines : L.lines ≡ before ++ last ∷ []

-- a line that stands after an end is refused for that, whatever its time
abbrev pub IsLineBreach : Problem → Plan → View → Line → LineBreach → Type 0
IsLineBreach P L v line TimeGoesBack =
    (before : List Line) × (t : Fraction) × (call : Called)
    × IsAfter P L v before (ActLine t call) × (time_of line <ℚ t)
IsLineBreach P L v line AfterEnd =
    (before : List Line) × (t : Fraction) × IsAfter P L v before (EndLine t)

-- the lines read break at this history by the line that is read next
pub record BreaksBy (P : Problem) (L : Plan) (h : List Part) (line : Line) (b : LineBreach) : Type 0 where
  pub prefix : Prefix P L h
  pub breach : IsLineBreach P L (view_of P h) line b
