-- What a call tells, over the list of tests that it asks: all pass and this is done, or the first that fails, by its name.
-- Want of memory is the one free answer.
use Rattle.std.specs.Prelude.{List, Result, Ok, Err}
use Rattle.plus_fraction.specs.Fraction.{Fraction}
use Rattle.plus_model.specs.Joint as model
use Rattle.plus_state.specs.View.{overflow_of}
use Rattle.plus_stepped.specs.declared.stop.StepStop.{StepStop}
use Rattle.plus_stepped.specs.declared.stop.StepStop.TheVariants.{Precondition, Repeats, Conflict, NoValue, Number, GoalFails, Memory}
use Rattle.plus_stepped.specs.Tests.{StepTest, asks, precondition, fails, repeats, goal, AllPass, FirstFailing}

-- all tests pass, and this is done
pub record Passed (fits : Fraction → Type 0) (tests : List StepTest) (Does : Type 0) : Type 0 where
  pub pass : AllPass fits tests
  pub does : Does

-- this test is the first that fails, and no plan does what was asked for here
pub record Broke (fits : Fraction → Type 0) (tests : List StepTest) (test : StepTest) (Never : Type 0) : Type 0 where
  pub first : FirstFailing fits tests test
  pub never : Never

abbrev pub Told : {Q A : Type 0} → (Q → Fraction) → (Fraction → Type 0) → List StepTest → (A → Type 0) → Type 0 → Result A (StepStop Q) → Type 0
Told value fits tests Does Never (Ok x) = Passed fits tests (Does x)
Told value fits tests Does Never (Err Precondition) = Broke fits tests precondition Never
Told value fits tests Does Never (Err (Repeats e)) = Broke fits tests (repeats e.0) Never
Told value fits tests Does Never (Err (Conflict f)) = Broke fits tests (fails (model.Conflict f.0)) Never
Told value fits tests Does Never (Err (NoValue f)) = Broke fits tests (fails (model.NoValue f.0)) Never
Told value fits tests Does Never (Err (Number o)) = FirstFailing fits tests (asks (overflow_of value o))
Told value fits tests Does Never (Err GoalFails) = Broke fits tests goal Never
Told value fits tests Does Never (Err Memory) = Unit {0}

-- memory is not wanting, since none is taken
abbrev pub TakesNoMemory : {Q A : Type 0} → Result A (StepStop Q) → Type 0
TakesNoMemory (Err Memory) = ⊥
TakesNoMemory _ = Unit {0}
