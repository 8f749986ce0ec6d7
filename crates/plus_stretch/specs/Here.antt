-- What begins in a state on the way along a running set.
use Rattle.std.specs.Prelude.{◌≡◌, ◌≢◌, ℕ, Bool, true, false, List, [], ◌∷◌, Option, Some, None, Result, map}
use Rattle.plus_fraction.specs.Fraction.{Fraction}
use Rattle.plus_model.specs.Terms.{State, Problem}
use Rattle.plus_model.specs.Firing.{firing}
use Rattle.plus_model.specs.Running.{moved, GoesOn, IsQuiet}
use Rattle.plus_state.specs.declared.outcome.Limit.TheVariants.{Number, Nonlinear}
use Rattle.plus_state.specs.declared.outcome.Owner.TheVariants.{Process}
use Rattle.plus_settle.specs.declared.stops.GoStop.{GoStop}
use Rattle.plus_settle.specs.declared.stops.GoStop.TheVariants as go
use Rattle.plus_settle.specs.Confirms.{first_other}
use Rattle.plus_stretch.specs.declared.halt.Halt.{Halt}
use Rattle.plus_stretch.specs.declared.halt.Halt.TheVariants.{Limit}
use Rattle.plus_stretch.specs.declared.arrival.End.{End}
use Rattle.plus_stretch.specs.declared.arrival.End.TheVariants.{EventHolds, SetEnds, Until}
use Rattle.plus_cascade.specs.Steps.{condition_nodes}
use Rattle.plus_stretch.specs.Tests.{asks}
use Rattle.plus_stretch.specs.Told.{Told, Never}
use Rattle.plus_stretch.specs.After.{IsNoneSoon, IsSoon}

-- whether there is one
abbrev pub is_some_of : List ℕ → Bool
is_some_of [] = false
is_some_of (x ∷ xs) = true

-- the stop of a process
abbrev pub of_go : {Q : Type 0} → GoStop Q → Halt Q
of_go (go.Number o) = Limit (Number o)
of_go (go.Nonlinear p k) = Limit (Nonlinear (Process p) k)

-- whether an event holds
abbrev pub EventHoldsTold : {Q : Type 0} → (Q → Fraction) → (Fraction → Type 0) → Problem → State → Result Bool (Halt Q) → Type 0
EventHoldsTold value fits P s answer = Told value fits (map asks (condition_nodes P.events s)) (λ b. b ≡ is_some_of (firing P s)) Never answer

-- nothing begins: no event holds, the set goes on, and no event holds just after
pub record IsQuietHere (P : Problem) (s : State) (R : List ℕ) (rs : List Fraction) : Type 0 where
  pub quiet : IsQuiet P s R rs
  pub other : first_other R 0 P.processes s rs ≡ None
  pub soon : IsNoneSoon P s rs

-- no event holds, and another set of processes holds just after
pub record SetEndsHere (P : Problem) (s : State) (R : List ℕ) (rs : List Fraction) : Type 0 where
  pub still : firing P s ≡ []
  pub process : ℕ
  pub other : first_other R 0 P.processes s rs ≡ Some process
  pub ends : GoesOn P s rs R → ⊥

abbrev pub EndsHere : Problem → State → List ℕ → List Fraction → End → Type 0
EndsHere P s R rs EventHolds = firing P s ≢ []
EndsHere P s R rs SetEnds = SetEndsHere P s R rs
EndsHere P s R rs Until = ⊥

-- what begins, if anything does
abbrev pub HereIs : Problem → State → List ℕ → List Fraction → Option End → Type 0
HereIs P s R rs None = IsQuietHere P s R rs
HereIs P s R rs (Some end) = EndsHere P s R rs end

-- no event holds, the set goes on, and this is the first event that holds just after; the time is given
pub record MomentlessHere (P : Problem) (t : Fraction) (s : State) (R : List ℕ) (rs : List Fraction) (e : ℕ) (time : Fraction) : Type 0 where
  pub quiet : IsQuiet P s R rs
  pub soon : IsSoon P t s rs e time

-- a state after some time along these rates
pub record IsAlong (s : State) (rs : List Fraction) (t : State) : Type 0 where
  pub at : Fraction
  pub is : t ≡ moved s rs at
