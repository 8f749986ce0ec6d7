-- Plans in equal steps of time. A stepped plan is a list of calls and of steps of one length. What is meant by a step is
-- this project's profile: the processes that hold in the state run for the whole step at the rates of that state, then
-- come the timed literals of the new time, then a cascade of events. No crossing inside a step is looked for.
use Rattle.std.specs.Prelude.{◌≡◌, ℕ, suc, true, List, [], ◌∷◌, Ok, pos}
use Rattle.plus_fraction.specs.Fraction.{Fraction, whole, ◌*ℚ◌}
use Rattle.plus_model.specs.Terms.{Action, State, Problem}
use Rattle.plus_model.specs.Value.{holds}
use Rattle.plus_model.specs.Joint.{joint}
use Rattle.plus_model.specs.Firing.{Cascade}
use Rattle.plus_model.specs.Running.{rates, moved, holding}
use Rattle.plus_model.specs.Plan.{Called, Instance}
use Rattle.plus_model.specs.Trajectory.{literals}

-- a call, or a step of time
pub data Move (C : Type 0) : Type 0 where
  Act : C → Move C
  Tick : Move C

-- an action is done: its condition holds, and this is the state after its joint effect
pub record Does (action : Action) (s after : State) : Type 0 where
  pub may : holds action.condition s ≡ true
  pub effect : joint action.effects s ≡ Ok after

-- after those events that fired, rounds go from this state up to one where no event holds
pub record Rests (P : Problem) (fired : List ℕ) (s last : State) : Type 0 where
  pub rounds : List (List ℕ × State)
  pub cascade : Cascade P fired s rounds last

-- the time after so many steps
abbrev pub time_of_step : Fraction → ℕ → Fraction
time_of_step q n = whole (pos n) *ℚ q

-- time passes in the n-th step: the processes that hold move the fluents, and then come the literals of its end
pub record Passes (P : Problem) (q : Fraction) (n : ℕ) (s after : State) : Type 0 where
  pub rate : List Fraction
  pub rate_is : rates P s (holding P s) ≡ Ok rate
  pub after_is : after ≡ literals P (time_of_step q n) (moved s rate q)

-- a call is done, with its cascade
pub record Acted {C : Type 0} (P : Problem) (meant : C → Called) (call : C) (s last : State) : Type 0 where
  pub action : Action
  pub called : meant call ≡ Instance action
  pub now : State
  pub does : Does action s now
  pub rests : Rests P [] now last

-- the n-th step is done, with its cascade
pub record Ticked (P : Problem) (q : Fraction) (n : ℕ) (s last : State) : Type 0 where
  pub now : State
  pub passes : Passes P q n s now
  pub rests : Rests P [] now last

-- the moves may be done one after the other, from a state after n steps, and the goal holds at the end
abbrev pub StepsOn : {C : Type 0} → Problem → Fraction → (C → Called) → ℕ → State → List (Move C) → Type 0
StepsOn P q meant n s [] = holds P.goal s ≡ true
StepsOn P q meant n s (Act call ∷ moves) = (last : State) × Acted P meant call s last × StepsOn P q meant n last moves
StepsOn P q meant n s (Tick ∷ moves) = (last : State) × Ticked P q (suc n) s last × StepsOn P q meant (suc n) last moves

-- the moves are a stepped plan
pub record SteppedPlan {C : Type 0} (P : Problem) (q : Fraction) (meant : C → Called) (moves : List (Move C)) : Type 0 where
  pub first : State
  pub rests : Rests P [] (literals P (whole (pos 0)) P.initial) first
  pub on : StepsOn P q meant 0 first moves

-- ---- the timed plan of a list of moves

-- each call with the time of the steps before it, of which there are n at first
abbrev pub timed_acts : {C : Type 0} → Fraction → ℕ → List (Move C) → List (Fraction × C)
timed_acts q n [] = []
timed_acts q n (Act call ∷ moves) = (time_of_step q n, call) ∷ timed_acts q n moves
timed_acts q n (Tick ∷ moves) = timed_acts q (suc n) moves

-- how many steps there are, from n on
abbrev pub steps_after : {C : Type 0} → ℕ → List (Move C) → ℕ
steps_after n [] = n
steps_after n (Act call ∷ moves) = steps_after n moves
steps_after n (Tick ∷ moves) = steps_after (suc n) moves

-- the acts with their times, and the end
abbrev pub timed : {C : Type 0} → Fraction → List (Move C) → List (Fraction × C) × Fraction
timed q moves = (timed_acts q 0 moves, time_of_step q (steps_after 0 moves))
